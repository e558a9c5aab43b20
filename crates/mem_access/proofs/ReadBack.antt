-- Bytes that were written, read again.
use Rattle.std.proofs.Common.{◌≡◌, ◌≢◌, inl, inr, ℕ, zero, suc, ◌+◌, ◌-◌, ◌/◌, ◌%◌, ◌^◌, ◌<◌, ◌≤◌, Bool, true, false, cond}
use Rattle.std.proofs.Common.{List, [], ◌∷◌, ◌++◌, length, take, get_or, Option, Some, None, refl, ap, sym, ◌∙◌, arith}
use Rattle.std.proofs.lemmas.List.{take_more, take_all}
use Rattle.std.proofs.lemmas.Bool.{ne_eqb}
use Rattle.std.specs.Prelude.{IsSome}
use Rattle.std.specs.FinMap.{FinMap, get, insert, get-insert}
use Rattle.std.specs.Ordering.{nat_cmp}
use Rattle.std.specs.Cmp.{nat_cmp_total}
use Rattle.plain_lemmas.proofs.Options.{neither_some}
use Rattle.plain_lemmas.proofs.Tests.{eqb-self, eq_by_cmp-nat}
use Rattle.plain_lemmas.proofs.Numbers.{cases_lt_suc}
use Rattle.paged_memory.specs.Memory.{AddressSpace, byte_with, bytes_with, and_byte, permits, permitted, unless_there, first_without}
use Rattle.paged_memory.specs.Memory.{set_bytes}
use Rattle.mem_access.specs.Runs.{with_bytes}

-- ---- bytes that are set

insert_other : (m : FinMap nat_cmp ℕ) (a b q : ℕ) → a ≢ q → get (insert m a b) q ≡ get m q
insert_other m a b q h = rw (get-insert nat_cmp_total m a b q, eq_by_cmp-nat q a, ne_eqb a q h) refl

insert_same : (m : FinMap nat_cmp ℕ) (a b : ℕ) → get (insert m a b) a ≡ Some b
insert_same m a b = rw (get-insert nat_cmp_total m a b a, eq_by_cmp-nat a a, eqb-self a) refl

set_others : (m : FinMap nat_cmp ℕ) (a : ℕ) (bs : List ℕ) (q : ℕ) → ((k : ℕ) → k < length bs → (a + k) % 2 ^ 64 ≢ q)
    → get (set_bytes m a bs) q ≡ get m q
unfolding set_bytes
set_others m a [] q h = refl
set_others m a (b ∷ bs) q h =
    let here : a % 2 ^ 64 ≢ q = λ e. h 0 (omega arith) (let z : a + 0 ≡ a = omega arith in rw z e) in
    set_others (insert m (a % 2 ^ 64) b) (a + 1) bs q
    (λ k l e. h (suc k) (omega arith) (let z : a + suc k ≡ a + 1 + k = omega arith in rw z e))
    ∙ insert_other m (a % 2 ^ 64) b q here

set_there : (m : FinMap nat_cmp ℕ) (a : ℕ) (bs : List ℕ) (k : ℕ) → k < length bs → length bs ≤ 2 ^ 64
    → get (set_bytes m a bs) ((a + k) % 2 ^ 64) ≡ Some (get_or bs k 0)
unfolding set_bytes
set_there m a [] k l h = absurd (omega arith)
set_there m a (b ∷ bs) zero l h =
    let z : a + zero ≡ a = omega arith in
    rw z
    (set_others (insert m (a % 2 ^ 64) b) (a + 1) bs (a % 2 ^ 64) (λ k low e.
    let near : k < 2 ^ 64 - 1 = omega arith in absurd (omega arith))
    ∙ insert_same m (a % 2 ^ 64) b)
set_there m a (b ∷ bs) (suc k) l h =
    let z : a + suc k ≡ a + 1 + k = omega arith in
    rw z (set_there (insert m (a % 2 ^ 64) b) (a + 1) bs k (omega arith) (omega arith))

-- ---- bytes that can be read

byte_there : (x : ℕ) (o : Option ℕ) → unless_there x o ≡ None → IsSome o
byte_there x None h = cc
byte_there x (Some b) h = refl

readable_at : (need : ℕ) (m : AddressSpace) (a n k : ℕ) → first_without need m a n ≡ None → k < n
    → IsSome (byte_with need m ((a + k) % 2 ^ 64))
unfolding first_without
readable_at need m a zero k h l = absurd (omega arith)
readable_at need m a (suc n) k h l =
    let parts : (first_without need m a n ≡ None) × (unless_there ((a + n) % 2 ^ 64) (byte_with need m ((a + n) % 2 ^ 64)) ≡ None) =
    neither_some (first_without need m a n) (unless_there ((a + n) % 2 ^ 64) (byte_with need m ((a + n) % 2 ^ 64))) h in
    elim (cases_lt_suc k n l) [
      | inl e ↦ rw e (byte_there ((a + n) % 2 ^ 64) (byte_with need m ((a + n) % 2 ^ 64)) parts.1)
      | inr before ↦ readable_at need m a n k parts.0 before
    ]

permitted_is : (need : ℕ) (flags old new : Option ℕ) → IsSome (permitted need flags old) → permitted need flags new ≡ new
permitted_is need None old new h = cc
permitted_is need (Some flags) old new h = choose (permits need flags) h
  where
    choose : (b : Bool) → IsSome (cond b old None) → cond b new None ≡ new
    choose true h = refl
    choose false h = cc

byte_back : (m : AddressSpace) (a : ℕ) (bs : List ℕ) (k : ℕ) → IsSome (byte_with 4 m ((a + k) % 2 ^ 64)) → k < length bs
    → length bs ≤ 2 ^ 64 → byte_with 4 (with_bytes m a bs) ((a + k) % 2 ^ 64) ≡ Some (get_or bs k 0)
unfolding byte_with
byte_back m a bs k h l small =
    permitted_is 4 (get m.perm ((a + k) % 2 ^ 64 / 4096)) (get m.mem ((a + k) % 2 ^ 64))
    (get (set_bytes m.mem a bs) ((a + k) % 2 ^ 64)) h
    ∙ set_there m.mem a bs k l small

first_back : (m : AddressSpace) (a : ℕ) (bs : List ℕ) (n : ℕ) → first_without 4 m a (length bs) ≡ None → length bs ≤ 2 ^ 64
    → n ≤ length bs → bytes_with 4 (with_bytes m a bs) a n ≡ Some (take n bs)
unfolding bytes_with
first_back m a bs zero h small l = refl
first_back m a bs (suc n) h small l =
    let more : take (suc n) bs ≡ take n bs ++ get_or bs n 0 ∷ [] =
    (let e : suc n ≡ n + 1 = omega arith in ap (λ k. take k bs) e) ∙ take_more bs n 0 (omega arith) in
    ap (λ o. and_byte o (byte_with 4 (with_bytes m a bs) ((a + n) % 2 ^ 64))) (first_back m a bs n h small (omega arith))
    ∙ ap (and_byte (Some (take n bs))) (byte_back m a bs n (readable_at 4 m a (length bs) n h (omega arith)) (omega arith) small)
    ∙ ap Some (sym more)

-- what was written can be read where it could be read before
pub read_back : (m : AddressSpace) (a : ℕ) (bs : List ℕ) → first_without 4 m a (length bs) ≡ None → length bs ≤ 2 ^ 64
    → bytes_with 4 (with_bytes m a bs) a (length bs) ≡ Some bs
read_back m a bs h small = first_back m a bs (length bs) h small (omega arith) ∙ ap Some (take_all (length bs) bs (omega arith))
