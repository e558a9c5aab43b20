-- The word that an instruction reaches.
use Rattle.std.proofs.Common.{◌≡◌, ℕ, suc, ◌-◌, ◌/◌, ◌%◌, ◌^◌, ◌==◌, ◌<◌, ◌≤◌, ◌&&◌, Bool, true, false, not, [], ◌∷◌, refl, ap}
use Rattle.std.proofs.Common.{sym, ◌∙◌, arith, Option, Some, None, option_map}
use Rattle.std.specs.Prelude.{option_and_then, IsSome}
use Rattle.sm_types.specs.Checks.{first_fault, fault_when}
use Rattle.paged_memory.specs.Memory.{AddressSpace, run_of}
use Rattle.std.specs.List.{find}
use Rattle.std.proofs.lemmas.Option.{same_Some, none-some, cond_some}
use Rattle.std.proofs.lemmas.Bool.Decides.{nat_tests}
use Rattle.std.proofs.lemmas.Bool.{and_parts}
use Rattle.sm_types.specs.declared.scalars.Scalars.{Scalars}
use Rattle.sm_types.specs.declared.shared_op.OpKind.{OpKind}
use Rattle.sm_types.specs.declared.shared_op.SharedOp.{SharedOp}
use Rattle.sm_types.specs.declared.insn.Insn.{Insn}
use Rattle.sm_types.specs.declared.insn.Insn.TheVariants as insn
use Rattle.sm_types.specs.declared.insn.LoadStoreOp.{LoadStoreOp}
use Rattle.sm_types.specs.declared.insn.LoadStoreOp.TheVariants.{Store, Load, LoadSignedTo64, LoadSignedTo32}
use Rattle.sm_types.specs.declared.insn.LoadLiteralOp.{LoadLiteralOp}
use Rattle.sm_types.specs.declared.insn.LoadLiteralOp.TheVariants.{Word, Doubleword, SignedWord}
use Rattle.sm_types.specs.declared.insn.AtomicOp.{AtomicOp}
use Rattle.sm_types.specs.declared.insn.AtomicOp.TheVariants.{Add, Clear, Eor, Set, Smax, Smin, Umax, Umin}
use Rattle.sm_types.specs.declared.insn.Atomic.{Atomic}
use Rattle.sm_types.specs.declared.insn.Atomic.TheVariants as atomic
use Rattle.sm_types.specs.declared.stop.Exception.{Exception}
use Rattle.sm_types.specs.declared.stop.Exception.TheVariants.{Shared, Align}
use Rattle.mem_access.specs.declared.access.MemoryAccess.{MemoryAccess}
use Rattle.mem_access.specs.Access.{load_store_access, load_literal_access, atomic_access}
use Rattle.mem_access.specs.DataAccess.{DataAccess, of_run}
use Rattle.mem_access.specs.Checks.{is_shared, sp_fault, align_fault, shared_fault, access_fault}
use Rattle.mem_access.specs.Transfer.{access_of}
use Rattle.mem_access.specs.SharedAccess.{address_of_word, word_number, is_of_word, reached_word, on_word, load_store_op, literal_op}
use Rattle.mem_access.specs.SharedAccess.{update_op, atomic_op, touched, checked_fault}

on_word_place : (k : OpKind) (a b : ℕ) (w : Option ℕ) (op : SharedOp) → on_word k a b w ≡ Some op → w ≡ Some op.place
on_word_place k a b None op e = absurd (none-some op e)
on_word_place k a b (Some place) op e = ap (λ (o : SharedOp). Some o.place) (same_Some _ op e)

load_store_place : (o : LoadStoreOp) (v : ℕ) (w : Option ℕ) (op : SharedOp) → load_store_op o v w ≡ Some op → w ≡ Some op.place
load_store_place Store v w op e = on_word_place _ _ _ w op e
load_store_place Load v w op e = on_word_place _ _ _ w op e
load_store_place LoadSignedTo64 v w op e = absurd (none-some op e)
load_store_place LoadSignedTo32 v w op e = absurd (none-some op e)

literal_place : (o : LoadLiteralOp) (w : Option ℕ) (op : SharedOp) → literal_op o w ≡ Some op → w ≡ Some op.place
literal_place Word w op e = absurd (none-some op e)
literal_place Doubleword w op e = on_word_place _ _ _ w op e
literal_place SignedWord w op e = absurd (none-some op e)

update_place : (o : AtomicOp) (v : ℕ) (w : Option ℕ) (op : SharedOp) → update_op o v w ≡ Some op → w ≡ Some op.place
update_place Add v w op e = on_word_place _ _ _ w op e
update_place Clear v w op e = on_word_place _ _ _ w op e
update_place Eor v w op e = on_word_place _ _ _ w op e
update_place Set v w op e = on_word_place _ _ _ w op e
update_place Smax v w op e = absurd (none-some op e)
update_place Smin v w op e = absurd (none-some op e)
update_place Umax v w op e = on_word_place _ _ _ w op e
update_place Umin v w op e = on_word_place _ _ _ w op e

atomic_place : (x : Atomic) (s : Scalars) (w : Option ℕ) (op : SharedOp) → atomic_op x s w ≡ Some op → w ≡ Some op.place
atomic_place (atomic.Ldar n rn rt) s w op e = on_word_place _ _ _ w op e
atomic_place (atomic.Stlr n rn rt) s w op e = on_word_place _ _ _ w op e
atomic_place (atomic.Cas n acquire release rs rn rt) s w op e = on_word_place _ _ _ w op e
atomic_place (atomic.Swap n acquire release rs rn rt) s w op e = on_word_place _ _ _ w op e
atomic_place (atomic.Update o n acquire release rs rn rt) s w op e = update_place o _ w op e

-- the access of an instruction is to a shared word
pub record Reaches (it : Insn) (s : Scalars) (place : ℕ) : Type 0 where
  pub run : MemoryAccess
  pub access : access_of it s ≡ Some (of_run run)
  pub word : reached_word run ≡ Some place

pub reaches : (it : Insn) (s : Scalars) (op : SharedOp) → touched it s ≡ Some op → Reaches it s op.place
unfolding touched
reaches (insn.LoadStore x) s op e = record { run = load_store_access x s; access = refl; word = load_store_place x.op _ _ op e }
reaches (insn.LoadLiteral x) s op e = record { run = load_literal_access x s; access = refl; word = literal_place x.op _ op e }
reaches (insn.Atomic x) s op e = record { run = atomic_access x s; access = refl; word = atomic_place x s _ op e }
reaches other s op e = absurd (none-some op e)

-- its place and its bytes
pub record IsOfWord (run : MemoryAccess) (place : ℕ) : Type 0 where
  pub size : run.size ≡ 8
  pub shared : is_shared run.address ≡ true
  pub aligned : run.address % 8 ≡ 0
  pub address : run.address ≡ address_of_word place

pub of_word : (run : MemoryAccess) (place : ℕ) → reached_word run ≡ Some place → IsOfWord run place
of_word run place e =
    let is = cond_some (is_of_word run) (word_number run.address) place e in
    let parts = and_parts ((run.size == 8) && is_shared run.address) (run.address % 8 == 0) is.0 in
    let first = and_parts (run.size == 8) (is_shared run.address) parts.0 in
    let size : run.size ≡ 8 = grind (arith, nat_tests, first.0) in
    let aligned : run.address % 8 ≡ 0 = grind (arith, nat_tests, parts.1) in
    let least : 0x7F0000000000 ≤ run.address = above run.address first.1 in
    let at : (run.address - 0x7F0000000000) / 8 ≡ place = is.1 in
    record { size = size; shared = first.1; aligned = aligned; address = omega (arith, aligned, least, at) }
  where
    above : (a : ℕ) → is_shared a ≡ true → 0x7F0000000000 ≤ a
    above a h = grind (arith, nat_tests)

find_first : (a n : ℕ) → a < 2 ^ 64 → is_shared a ≡ true → find is_shared (run_of a (suc n)) ≡ Some a
unfolding run_of
find_first a n low is =
    let same : a % 2 ^ 64 ≡ a = omega (arith, low) in
    rw (same, is) refl

below : (a : ℕ) → is_shared a ≡ true → a < 2 ^ 64
below a h = grind (arith, nat_tests)

pub touched_shared : (it : Insn) (s : Scalars) (op : SharedOp) → touched it s ≡ Some op
    → option_and_then shared_fault (access_of it s) ≡ Some (Shared (address_of_word op.place))
touched_shared it s op e =
    let r = reaches it s op e in
    let w = of_word r.run op.place r.word in
    ap (option_and_then shared_fault) r.access
    ∙ ap (λ n. option_map Shared (find is_shared (run_of r.run.address n))) w.size
    ∙ ap (option_map Shared) (find_first r.run.address 7 (below r.run.address w.shared) w.shared)
    ∙ ap (λ a. Some (Shared a)) w.address

some_op : (o : Option SharedOp) → IsSome o → (op : SharedOp) × (o ≡ Some op)
some_op None h = cc
some_op (Some op) h = (op, refl)

is_aligned : (aligned : Bool) (a n : ℕ) (e : Exception) → n ≡ 8 → a % 8 ≡ 0 → fault_when (aligned && not (a % n == 0)) e ≡ None
is_aligned true a n e eight multiple = rw (eight, multiple) refl
is_aligned false a n e eight multiple = refl

only_first : (first second : Option Exception) → second ≡ None
    → first_fault (first ∷ second ∷ None ∷ None ∷ None ∷ []) ≡ first
only_first None second e = rw e refl
only_first (Some exception) second e = refl

-- the checks of an access to a shared word are that of its base
pub checked_base : (it : Insn) (s : Scalars) (run : MemoryAccess) (m : AddressSpace) → IsSome (touched it s)
    → access_of it s ≡ Some (of_run run) → sp_fault (of_run run) s ≡ checked_fault it s m
unfolding access_fault
checked_base it s run m some access =
    let found = some_op (touched it s) some in
    let op = found.0 in
    let r = reaches it s op found.1 in
    let w = of_word r.run op.place r.word in
    let same : of_run r.run ≡ of_run run = same_Some _ _ (sym r.access ∙ access) in
    let eight : run.size ≡ 8 = ap (λ (a : DataAccess). a.size) (sym same) ∙ w.size in
    let multiple : run.address % 8 ≡ 0 = ap (λ (a : DataAccess). a.address % 8) (sym same) ∙ w.aligned in
    sym (ap (option_and_then (λ a. access_fault (touched it s) a s m)) access
    ∙ ap (λ o. access_fault o (of_run run) s m) found.1
    ∙ only_first (sp_fault (of_run run) s) (align_fault (of_run run))
    (is_aligned run.aligned run.address run.size (Align run.address) eight multiple))
