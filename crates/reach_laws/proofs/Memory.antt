-- The bytes of memory.
use Rattle.std.proofs.Common.{◌≡◌, ℕ, zero, suc, ◌+◌, ◌/◌, ◌%◌, ◌^◌, ◌<◌, ◌==◌, Bool, true, false, cond, List, [], ◌∷◌, length, Option}
use Rattle.std.proofs.Common.{Some, None}
use Rattle.std.proofs.Common.{refl, sym, ap, ◌∙◌, arith, subst, length-append}
use Rattle.std.specs.Prelude.{unwrap_or, option_map}
use Rattle.std.specs.FinMap.{FinMap, get, insert, get-insert}
use Rattle.std.specs.Cmp.{nat_cmp_total}
use Rattle.std.specs.Ordering.{nat_cmp}
use Rattle.std.proofs.lemmas.List.Elements.{All-nil, All-cons, All-head, All-tail, All-append}
use Rattle.std.proofs.Math.Nat.{one-le-pow}
use Rattle.plain_lemmas.proofs.Tests.{eq_by_cmp-nat}
use Rattle.sm_types.specs.Bytes.{little_number}
use Rattle.paged_memory.specs.Memory.{AddressSpace, byte_with, bytes_with, permitted, permits, and_byte, set_bytes, word_at}
use Rattle.mem_access.specs.Values.{bytes_at, byte_and, number_at, number_or_zero, set_each}
use Rattle.mem_access.specs.Transfer.{written}
use Rattle.sve_access.specs.After.{read_bytes}
use Rattle.reach_laws.specs.Run.{HasBytes}
use Rattle.reach_laws.proofs.Fits.{AreBytes}
use Rattle.reach_laws.proofs.Bytes.{little_below}

-- ---- what is written

-- each address of a map that has a byte has one below 256
abbrev HoldsBytes : FinMap nat_cmp ℕ → Type 0
HoldsBytes mem = (address b : ℕ) → get mem address ≡ Some b → b < 256

bytes_insert : (mem : FinMap nat_cmp ℕ) (a b : ℕ) → HoldsBytes mem → b < 256 → HoldsBytes (insert mem a b)
bytes_insert mem a b h lt q v is =
    (elim (a == q) as (λ t. cond t (Some b) (get mem q) ≡ Some v → v < 256) [
      | true ↦ λ e. let same : b ≡ v = cc in subst (λ x. x < 256) same lt
      | false ↦ λ e. h q v e
    ]) (sym (get-insert nat_cmp_total mem a b q ∙ rw eq_by_cmp-nat refl) ∙ is)

pub bytes_set_each : (mem : FinMap nat_cmp ℕ) (addresses bytes : List ℕ) → HoldsBytes mem → AreBytes bytes
    → HoldsBytes (set_each mem addresses bytes)
unfolding set_each
bytes_set_each mem [] bytes h small = h
bytes_set_each mem (a ∷ addresses) [] h small = h
bytes_set_each mem (a ∷ addresses) (b ∷ bytes) h small =
    bytes_set_each (insert mem a b) addresses bytes (bytes_insert mem a b h (All-head (λ b. b < 256) b bytes small))
    (All-tail (λ b. b < 256) b bytes small)

pub bytes_set : (mem : FinMap nat_cmp ℕ) (a : ℕ) (bytes : List ℕ) → HoldsBytes mem → AreBytes bytes → HoldsBytes (set_bytes mem a bytes)
unfolding set_bytes
bytes_set mem a [] h small = h
bytes_set mem a (b ∷ bytes) h small =
    bytes_set (insert mem (a % 2 ^ 64) b) (a + 1) bytes (bytes_insert mem (a % 2 ^ 64) b h (All-head (λ b. b < 256) b bytes small))
    (All-tail (λ b. b < 256) b bytes small)

-- the bytes that are stored, if any are
abbrev pub AreSomeBytes : Option (List ℕ) → Type 0
AreSomeBytes None = Unit {0}
AreSomeBytes (Some bytes) = AreBytes bytes

pub bytes_written : (m : AddressSpace) (addresses : List ℕ) (stored : Option (List ℕ)) → HasBytes m → AreSomeBytes stored
    → HasBytes (written m addresses stored)
bytes_written m addresses None h small = h
bytes_written m addresses (Some bytes) h small = bytes_set_each m.mem addresses bytes h small

-- ---- what is read

byte_there : (need : ℕ) (m : AddressSpace) (a b : ℕ) → HasBytes m → byte_with need m a ≡ Some b → b < 256
unfolding byte_with
byte_there need m a b h is = by_flags (get m.perm (a / 4096)) is
  where
    by_test : (t : Bool) → cond t (get m.mem a) None ≡ Some b → b < 256
    by_test true e = h a b e
    by_test false e = (let none : ⊥ = cc in absurd none)

    by_flags : (flags : Option ℕ) → permitted need flags (get m.mem a) ≡ Some b → b < 256
    by_flags None e = (let none : ⊥ = cc in absurd none)
    by_flags (Some flags) e = by_test (permits need flags) e

-- some bytes or none
abbrev pub ReadsBytes : ℕ → Option (List ℕ) → Type 0
ReadsBytes n None = Unit {0}
ReadsBytes n (Some bytes) = AreBytes bytes × (length bytes ≡ n)

pub reads_at : (m : AddressSpace) (addresses : List ℕ) → HasBytes m → ReadsBytes (length addresses) (bytes_at m addresses)
unfolding bytes_at
reads_at m [] h = (All-nil (λ b. b < 256), refl)
reads_at m (a ∷ addresses) h = joined (byte_with 4 m a) (bytes_at m addresses) (λ b is. byte_there 4 m a b h is) (reads_at m addresses h)
  where
    joined : (first : Option ℕ) (rest : Option (List ℕ)) → ((b : ℕ) → first ≡ Some b → b < 256) → ReadsBytes (length addresses) rest
        → ReadsBytes (suc (length addresses)) (byte_and first rest)
    joined None rest f r = tt
    joined (Some b) None f r = tt
    joined (Some b) (Some bytes) f r = (All-cons (λ b. b < 256) b bytes (f b refl) r.0, ap suc r.1)

pub reads_with : (need : ℕ) (m : AddressSpace) (a n : ℕ) → HasBytes m → ReadsBytes n (bytes_with need m a n)
unfolding bytes_with
reads_with need m a zero h = (All-nil (λ b. b < 256), refl)
reads_with need m a (suc n) h =
    joined (bytes_with need m a n) (byte_with need m ((a + n) % 2 ^ 64)) (λ b is. byte_there need m ((a + n) % 2 ^ 64) b h is)
    (reads_with need m a n h)
  where
    joined : (first : Option (List ℕ)) (last : Option ℕ) → ((b : ℕ) → last ≡ Some b → b < 256) → ReadsBytes n first
        → ReadsBytes (suc n) (and_byte first last)
    joined None last f r = tt
    joined (Some bytes) None f r = tt
    joined (Some bytes) (Some b) f r = (
      All-append (λ b. b < 256) bytes (b ∷ []) r.0 (All-cons (λ b. b < 256) b [] (f b refl) (All-nil (λ b. b < 256))),
      length-append bytes (b ∷ []) ∙ (let e = r.1 in omega (arith, e)),
    )

pub number_below : (m : AddressSpace) (addresses : List ℕ) → HasBytes m → number_at m addresses < 256 ^ length addresses
unfolding number_at
number_below m addresses h = by_bytes (bytes_at m addresses) (reads_at m addresses h)
  where
    by_bytes : (o : Option (List ℕ)) → ReadsBytes (length addresses) o → number_or_zero o < 256 ^ length addresses
    by_bytes None r = one-le-pow (length addresses) 256 (omega arith)
    by_bytes (Some bytes) r = little_below (length addresses) bytes r.0 r.1

pub are_read : (m : AddressSpace) (addresses : List ℕ) → HasBytes m → AreBytes (read_bytes m addresses)
are_read m addresses h = by_bytes (bytes_at m addresses) (reads_at m addresses h)
  where
    by_bytes : (o : Option (List ℕ)) → ReadsBytes (length addresses) o → AreBytes (unwrap_or o [])
    by_bytes None r = All-nil (λ b. b < 256)
    by_bytes (Some bytes) r = r.0

pub word_below : (m : AddressSpace) (pc word : ℕ) → HasBytes m → word_at m pc ≡ Some word → word < 2 ^ 32
unfolding word_at
word_below m pc word h is = by_bytes (bytes_with 1 m pc 4) (reads_with 1 m pc 4 h) is
  where
    by_bytes : (o : Option (List ℕ)) → ReadsBytes 4 o → option_map little_number o ≡ Some word → word < 2 ^ 32
    by_bytes None r e = (let none : ⊥ = cc in absurd none)
    by_bytes (Some bytes) r e = let same : little_number bytes ≡ word = cc in subst (λ x. x < 2 ^ 32) same (little_below 4 bytes r.0 r.1)
