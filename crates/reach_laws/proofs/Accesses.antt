-- Loads, stores and atomic instructions keep the ranges of registers and bytes.
use Rattle.std.proofs.Common.{◌≡◌, ℕ, ◌+◌, ◌-◌, ◌*◌, ◌/◌, ◌%◌, ◌^◌, ◌<◌, ◌≤◌, ◌==◌, Bool, true, false, cond, length, Some, None}
use Rattle.std.proofs.Common.{refl, sym, ◌∙◌, arith, subst, IsTrue}
use Rattle.std.specs.Prelude.{nat_lt}
use Rattle.std.specs.Int.{bytes_low_first}
use Rattle.std.proofs.lemmas.List.Elements.{All-append}
use Rattle.std.proofs.lemmas.Nat.{mod_below, pow_pos, div_below}
use Rattle.std.proofs.Math.Nat.{pow-le-pow_right}
use Rattle.a64_table.specs.Ranges.{IsInRow, has_size}
use Rattle.mem_access.specs.SharedAccess.{touched}
use Rattle.mem_access.proofs.Lists.{length-run}
use Rattle.sm_types.specs.declared.scalars.Scalars.{Scalars}
use Rattle.sm_types.specs.declared.shared_op.SharedOp.{SharedOp}
use Rattle.sm_types.specs.declared.insn as types
use types.{Insn.Insn, LoadStore.LoadStore, LoadStoreOp.LoadStoreOp, LoadStorePair.LoadStorePair, PairIndex.PairIndex, PairOp.PairOp}
use types.{Address.Address, AccessSize.AccessSize, LoadLiteralOp.LoadLiteralOp, Atomic.Atomic, LoadLiteral.LoadLiteral}
use types.Insn.TheVariants as insn
use types.LoadStoreOp.TheVariants.{Store, Load, LoadSignedTo64, LoadSignedTo32}
use types.LoadLiteralOp.TheVariants as literal
use types.PairOp.TheVariants.{Stp, Ldp}
use types.PairIndex.TheVariants as index
use types.Address.TheVariants as address
use types.AccessSize.TheVariants as size
use types.Atomic.TheVariants as atomic
use Rattle.bit_ops.specs.Sums.{word_size}
use Rattle.paged_memory.specs.Memory.{AddressSpace, run_of}
use Rattle.scalar_exec.specs.Registers.{x_of}
use Rattle.scalar_exec.specs.Operands.{sign_extend}
use Rattle.mem_access.specs.Access.{bytes_in, with_base, with_pair_base, register_size, literal_size}
use Rattle.mem_access.specs.Access.{load_store_access, load_literal_access, pair_access, atomic_access}
use Rattle.mem_access.specs.Values.{loaded, literal_loaded, number_at, low_bytes}
use Rattle.mem_access.specs.Transfer.{load_store_after, load_store_stored, pair_after, pair_stored, atomic_after, atomic_stored}
use Rattle.mem_access.specs.Transfer.{registers_after, after_access, AfterAccess}
use Rattle.reach_laws.specs.Run.{HasBytes}
use Rattle.reach_laws.proofs.Fits.{Fits}
use Rattle.reach_laws.proofs.Scalars.{fits_x, fits_x_or_sp, word_fits}
use Rattle.reach_laws.proofs.Bytes.{are_low_first}
use Rattle.reach_laws.proofs.Memory.{AreSomeBytes, bytes_written, number_below}

-- ---- registers

with_base_fits : (x : Address) (rn : ℕ) (s : Scalars) → Fits s → Fits (with_base x rn s)
unfolding with_base
with_base_fits (address.Offset imm) rn s h = h
with_base_fits (address.Unscaled offset) rn s h = h
with_base_fits (address.PostIndex offset) rn s h = fits_x_or_sp s rn _ h (omega arith)
with_base_fits (address.PreIndex offset) rn s h = fits_x_or_sp s rn _ h (omega arith)
with_base_fits (address.Register rm extend scaled) rn s h = h

pair_base_fits : (i : PairIndex) (x : LoadStorePair) (s : Scalars) → Fits s → Fits (with_pair_base i x s)
unfolding with_pair_base
pair_base_fits index.Offset x s h = h
pair_base_fits index.PostIndex x s h = fits_x_or_sp s x.rn _ h (omega arith)
pair_base_fits index.PreIndex x s h = fits_x_or_sp s x.rn _ h (omega arith)

extended_below : (k : ℕ) (wide : Bool) (n : ℕ) → 2 ^ k ≤ word_size wide → sign_extend k wide n < 2 ^ 64
unfolding sign_extend
extended_below k wide n le = word_fits wide _ (by_test (nat_lt (n % 2 ^ k) (2 ^ (k - 1))))
  where
    low : n % 2 ^ k < 2 ^ k
    low = mod_below n (2 ^ k) (pow_pos k)

    by_test : (t : Bool) → cond t (n % 2 ^ k) (word_size wide - 2 ^ k + n % 2 ^ k) < word_size wide
    by_test true = omega (arith, low)
    by_test false = omega (arith, low)

loaded_below : (op : LoadStoreOp) (n : AccessSize) (value : ℕ) → IsTrue (has_size op n) → value < 2 ^ 64
    → loaded op (bytes_in n) value < 2 ^ 64
unfolding loaded
loaded_below Store n value t lt = lt
loaded_below Load n value t lt = lt
loaded_below LoadSignedTo64 size.Byte value t lt = extended_below 8 true value (omega arith)
loaded_below LoadSignedTo64 size.Halfword value t lt = extended_below 16 true value (omega arith)
loaded_below LoadSignedTo64 size.Word value t lt = extended_below 32 true value (omega arith)
loaded_below LoadSignedTo64 size.Doubleword value t lt = extended_below 64 true value (omega arith)
loaded_below LoadSignedTo32 size.Byte value t lt = extended_below 8 false value (omega arith)
loaded_below LoadSignedTo32 size.Halfword value t lt = extended_below 16 false value (omega arith)
loaded_below LoadSignedTo32 size.Word value t lt = extended_below 32 false value (omega arith)
loaded_below LoadSignedTo32 size.Doubleword value t lt = (let none : ⊥ = cc in absurd none)

literal_below : (op : LoadLiteralOp) (value : ℕ) → value < 2 ^ 64 → literal_loaded op value < 2 ^ 64
unfolding literal_loaded
literal_below literal.Word value lt = lt
literal_below literal.Doubleword value lt = lt
literal_below literal.SignedWord value lt = extended_below 32 true value (omega arith)

load_store_fits : (op : LoadStoreOp) (x : LoadStore) (number : ℕ) (s : Scalars) → IsTrue (has_size op x.size) → Fits s → number < 2 ^ 64
    → Fits (load_store_after op x number s)
unfolding load_store_after
load_store_fits Store x number s t h lt = with_base_fits x.address x.rn s h
load_store_fits Load x number s t h lt = fits_x _ x.rt _ (with_base_fits x.address x.rn s h) (loaded_below Load x.size number t lt)
load_store_fits LoadSignedTo64 x number s t h lt =
    fits_x _ x.rt _ (with_base_fits x.address x.rn s h) (loaded_below LoadSignedTo64 x.size number t lt)
load_store_fits LoadSignedTo32 x number s t h lt =
    fits_x _ x.rt _ (with_base_fits x.address x.rn s h) (loaded_below LoadSignedTo32 x.size number t lt)

-- the number of a pair is of two registers
pair_high : (wide : Bool) (number : ℕ) → number < 256 ^ (2 * register_size wide) → number / 2 ^ (8 * register_size wide) < 2 ^ 64
pair_high true number lt = div_below number (2 ^ 64) (2 ^ 64) (omega arith) (omega arith)
pair_high false number lt = div_below number (2 ^ 32) (2 ^ 64) (omega arith) (omega arith)

pair_low : (wide : Bool) (number : ℕ) → number % 2 ^ (8 * register_size wide) < 2 ^ 64
pair_low true number = omega arith
pair_low false number = omega arith

pair_fits : (op : PairOp) (x : LoadStorePair) (number : ℕ) (s : Scalars) → Fits s → number < 256 ^ (2 * register_size x.wide)
    → Fits (pair_after op x number s)
unfolding pair_after
pair_fits Stp x number s h lt = pair_base_fits x.index x s h
pair_fits Ldp x number s h lt =
    fits_x _ x.rt2 _ (fits_x _ x.rt _ (pair_base_fits x.index x s h) (pair_low x.wide number)) (pair_high x.wide number lt)

atomic_fits : (x : Atomic) (number : ℕ) (s : Scalars) → Fits s → number < 2 ^ 64 → Fits (atomic_after x number s)
unfolding atomic_after
atomic_fits (atomic.Ldar n rn rt) number s h lt = fits_x s rt _ h lt
atomic_fits (atomic.Stlr n rn rt) number s h lt = h
atomic_fits (atomic.Cas n acquire release rs rn rt) number s h lt = fits_x s rs _ h lt
atomic_fits (atomic.Swap n acquire release rs rn rt) number s h lt = fits_x s rt _ h lt
atomic_fits (atomic.Update op n acquire release rs rn rt) number s h lt = fits_x s rt _ h lt

-- the registers after an answer of 64 bits
pub answered_fits : (it : Insn) (answer : ℕ) (s : Scalars) → IsInRow it → Fits s → answer < 2 ^ 64 → (op : SharedOp)
    → touched it s ≡ Some op
    → Fits (registers_after it answer s)
unfolding touched
answered_fits (insn.LoadStore x) answer s r h lt op is = load_store_fits x.op x answer s r.size h lt
answered_fits (insn.LoadLiteral x) answer s r h lt op is = fits_x s x.rt _ h (literal_below x.op answer lt)
answered_fits (insn.Atomic x) answer s r h lt op is = atomic_fits x answer s h lt
answered_fits other answer s r h lt op is = (let none : ⊥ = cc in absurd none)

-- ---- private memory

some_load_store : (op : LoadStoreOp) (x : LoadStore) (s : Scalars) → AreSomeBytes (load_store_stored op x s)
unfolding load_store_stored
some_load_store Store x s = are_low_first 0 (bytes_in x.size) (x_of s x.rt)
some_load_store Load x s = tt
some_load_store LoadSignedTo64 x s = tt
some_load_store LoadSignedTo32 x s = tt

some_pair : (op : PairOp) (x : LoadStorePair) (s : Scalars) → AreSomeBytes (pair_stored op x s)
unfolding pair_stored
some_pair Stp x s =
    All-append (λ b. b < 256) (bytes_low_first 0 (register_size x.wide) (x_of s x.rt))
    (bytes_low_first 0 (register_size x.wide) (x_of s x.rt2))
    (are_low_first 0 (register_size x.wide) (x_of s x.rt)) (are_low_first 0 (register_size x.wide) (x_of s x.rt2))
some_pair Ldp x s = tt

some_atomic : (x : Atomic) (number : ℕ) (s : Scalars) → AreSomeBytes (atomic_stored x number s)
unfolding atomic_stored
some_atomic (atomic.Ldar n rn rt) number s = tt
some_atomic (atomic.Stlr n rn rt) number s = are_low_first 0 (bytes_in n) (x_of s rt)
some_atomic (atomic.Cas n acquire release rs rn rt) number s =
    elim (number == low_bytes (bytes_in n) (x_of s rs)) as
    (λ t. AreSomeBytes (cond t (Some (bytes_low_first 0 (bytes_in n) (x_of s rt))) None)) [
      | true ↦ are_low_first 0 (bytes_in n) (x_of s rt)
      | false ↦ tt
    ]
some_atomic (atomic.Swap n acquire release rs rn rt) number s = are_low_first 0 (bytes_in n) (x_of s rs)
some_atomic (atomic.Update op n acquire release rs rn rt) number s = are_low_first 0 (bytes_in n) _

-- what an access leaves fits
pub record AccessFits (after : AfterAccess) : Type 0 where
  pub scalars : Fits after.scalars
  pub memory : HasBytes after.memory

number_small : (m : AddressSpace) (a n : ℕ) → HasBytes m → n ≤ 8 → number_at m (run_of a n) < 2 ^ 64
number_small m a n h le =
    let l = length-run a n in
    let e = number_below m (run_of a n) h in
    let p : 256 ^ length (run_of a n) ≤ 256 ^ 8 = subst (λ k. 256 ^ k ≤ 256 ^ 8) (sym l) (pow-le-pow_right (omega arith) le) in
    omega arith

size_small : (n : AccessSize) → bytes_in n ≤ 8
size_small size.Byte = omega arith
size_small size.Halfword = omega arith
size_small size.Word = omega arith
size_small size.Doubleword = omega arith

literal_small : (op : LoadLiteralOp) → literal_size op ≤ 8
literal_small literal.Word = omega arith
literal_small literal.Doubleword = omega arith
literal_small literal.SignedWord = omega arith

atomic_small : (x : Atomic) (s : Scalars) → (atomic_access x s).size ≤ 8
unfolding atomic_access
atomic_small (atomic.Ldar n rn rt) s = size_small n
atomic_small (atomic.Stlr n rn rt) s = size_small n
atomic_small (atomic.Cas n acquire release rs rn rt) s = size_small n
atomic_small (atomic.Swap n acquire release rs rn rt) s = size_small n
atomic_small (atomic.Update op n acquire release rs rn rt) s = size_small n

load_store_small : (x : LoadStore) (s : Scalars) → (load_store_access x s).size ≤ 8
unfolding load_store_access
load_store_small x s = size_small x.size

literal_access_small : (x : LoadLiteral) (s : Scalars) → (load_literal_access x s).size ≤ 8
unfolding load_literal_access
literal_access_small x s = literal_small x.op

pair_size : (x : LoadStorePair) (s : Scalars) → (pair_access x s).size ≡ 2 * register_size x.wide
unfolding pair_access
pair_size x s = refl

pair_number : (x : LoadStorePair) (s : Scalars) (m : AddressSpace) → HasBytes m
    → number_at m (run_of (pair_access x s).address (pair_access x s).size) < 256 ^ (2 * register_size x.wide)
pair_number x s m h =
    subst (λ k. number_at m (run_of (pair_access x s).address (pair_access x s).size) < 256 ^ k)
    (length-run (pair_access x s).address (pair_access x s).size ∙ pair_size x s)
    (number_below m (run_of (pair_access x s).address (pair_access x s).size) h)

pub access_fits : (it : Insn) (s : Scalars) (m : AddressSpace) → IsInRow it → Fits s → HasBytes m → AccessFits (after_access it s m)
access_fits (insn.LoadStore x) s m r h holds = record {
  scalars = load_store_fits x.op x _ s r.size h (number_small m _ _ holds (load_store_small x s));
  memory = bytes_written m _ _ holds (some_load_store x.op x s);
}
access_fits (insn.LoadLiteral x) s m r h holds = record {
  scalars = fits_x s x.rt _ h (literal_below x.op _ (number_small m _ _ holds (literal_access_small x s)));
  memory = holds;
}
access_fits (insn.LoadStorePair x) s m r h holds = record {
  scalars = pair_fits x.op x _ s h (pair_number x s m holds);
  memory = bytes_written m _ _ holds (some_pair x.op x s);
}
access_fits (insn.Atomic x) s m r h holds = record {
  scalars = atomic_fits x _ s h (number_small m _ _ holds (atomic_small x s));
  memory = bytes_written m _ _ holds (some_atomic x _ s);
}
access_fits other s m r h holds = record { scalars = h; memory = holds }
