-- What is known of owned pages: what a run of bytes owns, and runs one after the other.
use Rattle.std.proofs.Common.{◌≡◌, ℕ, zero, suc, ◌+◌, ◌/◌, ◌%◌, ◌^◌, ◌<◌, ◌≤◌, ◌==◌, Bool, true, false, List, [], ◌∷◌, ◌++◌}
use Rattle.std.proofs.Common.{refl, ap, ap₂, sym, ◌∙◌, subst, arith, All, get_or, Option, Some, None, inl, inr, true≢false}
use Rattle.std.specs.Prelude.{◌||◌, ◌&&◌, is_some, IsSome, IsTrue, Result, Ok, Err}
use Rattle.std.specs.List.{list_any}
use Rattle.std.proofs.lemmas.Bool.{eq-eqb, eqb-true, or_cases}
use Rattle.std.proofs.lemmas.List.Folds.{list_any-append, list_any_at}
use Rattle.std.specs.FinMap.{get}
use Rattle.std.specs.FinSet.{contains, contains-insert}
use Rattle.std.specs.FinSet as set
use Rattle.std.specs.Cmp.{nat_cmp_total}
use Rattle.plain_lemmas.proofs.Tests.{eq_by_cmp-nat}
use Rattle.paged_memory.specs.Memory.{run_of}
use Rattle.paged_memory.specs.PageTable.{PageTable, AreOwned, IsOwned, is_touched, OwnsAlso, IsRefused, Owns, KeepsOwned}

-- where no byte is written, no more pages are owned
pub owns_none : {Value Stop Cause : Type 0} (cause_of : Stop → Option Cause) (t : PageTable) (r : Result Value Stop)
    → Owns cause_of [] t t r
owns_none cause_of t (Ok value) = λ number. refl
owns_none cause_of t (Err stop) = as_it_was (cause_of stop)
  where
    as_it_was : {Cause : Type 0} (cause : Option Cause) → IsRefused t t cause
    as_it_was (Some cause) = refl
    as_it_was None = λ n owned. owned

pub owns_same : (old new : PageTable) → new ≡ old → OwnsAlso old new []
owns_same old new same = rw same (λ number. refl)

or_right : (a b : Bool) → IsTrue b → IsTrue (a || b)
or_right true b h = refl
or_right false b h = h

-- owned pages stay owned
pub owns_keeps : (old new : PageTable) (addresses : List ℕ) → OwnsAlso old new addresses → KeepsOwned old new
owns_keeps old new addresses owns n owned = owns n ∙ or_right (is_touched old.memory addresses n) (contains old.owned n) owned

pub kept_trans : (a b c : PageTable) → KeepsOwned a b → KeepsOwned b c → KeepsOwned a c
kept_trans a b c ab bc n owned = bc n (ab n owned)

refused_keeps : {Cause : Type 0} (old new : PageTable) (cause : Option Cause) → IsRefused old new cause → KeepsOwned old new
refused_keeps old new (Some cause) same = λ n owned. rw same owned
refused_keeps old new None kept = kept

pub owned_kept : {Value Stop Cause : Type 0} (cause_of : Stop → Option Cause) (addresses : List ℕ) (old new : PageTable)
    (r : Result Value Stop) → Owns cause_of addresses old new r → KeepsOwned old new
owned_kept cause_of addresses old new (Ok value) owns = owns_keeps old new addresses owns
owned_kept cause_of addresses old new (Err stop) owns = refused_keeps old new (cause_of stop) owns

and_or : (a b c d : Bool) → ((b && c) || ((a && c) || d)) ≡ (((a || b) && c) || d)
and_or true true true d = refl
and_or true true false d = refl
and_or true false true d = refl
and_or true false false d = refl
and_or false true true d = refl
and_or false true false d = refl
and_or false false c d = refl

-- the pages of some bytes, and then those of others
pub owns_both : (a b c : PageTable) (xs ys : List ℕ) → b.memory.perm ≡ a.memory.perm → OwnsAlso a b xs → OwnsAlso b c ys
    → OwnsAlso a c (xs ++ ys)
owns_both a b c xs ys same first second number =
    let in_page : ℕ → Bool = λ x. x / 4096 == number in
    let there : Bool = is_some (get a.memory.perm number) in
    second number
    ∙ ap₂ (λ m o. (list_any in_page ys && is_some (get m number)) || o) same (first number)
    ∙ and_or (list_any in_page xs) (list_any in_page ys) there (contains a.owned number)
    ∙ ap (λ any. (any && there) || contains a.owned number) (sym (list_any-append in_page xs ys))

-- the last of them, or none, may own no more
pub owns_then : (a b c : PageTable) (xs : List ℕ) → OwnsAlso a b xs → OwnsAlso b c [] → OwnsAlso a c xs
owns_then a b c xs first second number = second number ∙ first number

-- ---- the bytes of a run

pub or_true : (b : Bool) → (b || true) ≡ true
or_true true = refl
or_true false = refl

-- one of the bytes lies in the page of any of them
in_run : (a n k : ℕ) → k < n → list_any (λ x. x / 4096 == (a + k) % 2 ^ 64 / 4096) (run_of a n) ≡ true
unfolding run_of
in_run a zero k lt = absurd (omega (arith, lt))
in_run a (suc n) zero lt =
    let first : a + 0 ≡ a = omega arith in
    ap (λ x. (a % 2 ^ 64 / 4096 == x % 2 ^ 64 / 4096) || list_any (λ y. y / 4096 == x % 2 ^ 64 / 4096) (run_of (a + 1) n)) first
    ∙ ap (λ b. b || list_any (λ y. y / 4096 == a % 2 ^ 64 / 4096) (run_of (a + 1) n)) (eq-eqb _ _ refl)
in_run a (suc n) (suc k) lt =
    let next : a + suc k ≡ a + 1 + k = omega arith in
    ap (λ p. (a % 2 ^ 64 / 4096 == p % 2 ^ 64 / 4096) || list_any (λ y. y / 4096 == p % 2 ^ 64 / 4096) (run_of (a + 1) n)) next
    ∙ ap (λ b. (a % 2 ^ 64 / 4096 == (a + 1 + k) % 2 ^ 64 / 4096) || b) (in_run (a + 1) n k (omega (arith, lt)))
    ∙ or_true (a % 2 ^ 64 / 4096 == (a + 1 + k) % 2 ^ 64 / 4096)

touched_or : (any there owned : Bool) → any ≡ true → there ≡ true → ((any && there) || owned) ≡ true
touched_or true true owned is at = refl
touched_or true false owned is at = cc
touched_or false there owned is at = cc

-- where the pages of bytes are owned besides those that were, all of theirs are
pub also_all : (old new : PageTable) (addresses : List ℕ) → OwnsAlso old new addresses → new.memory.perm ≡ old.memory.perm
    → All (λ a. IsSome (get new.memory.perm (a / 4096)) → IsOwned new (a / 4096)) addresses
also_all old new addresses owns same k d lt there =
    let page : ℕ = get_or addresses k d / 4096 in
    owns page
    ∙ touched_or (list_any (λ x. x / 4096 == page) addresses) (is_some (get old.memory.perm page)) (contains old.owned page)
    (list_any_at (λ x. x / 4096 == page) addresses k d lt (eq-eqb _ _ refl)) (rw (← same) there)

pub also_owned : (old new : PageTable) (address n : ℕ) → OwnsAlso old new (run_of address n) → new.memory.perm ≡ old.memory.perm
    → AreOwned new address n
also_owned old new address n owns same k lt there =
    let page : ℕ = (address + k) % 2 ^ 64 / 4096 in
    owns page
    ∙ touched_or (list_any (λ x. x / 4096 == page) (run_of address n)) (is_some (get old.memory.perm page)) (contains old.owned page)
    (in_run address n k lt) (rw (← same) there)

-- a byte of the run that passes a test
reached : (P : Type 0) (test : ℕ → Bool) (a n : ℕ) → ((k : ℕ) → k < n → test ((a + k) % 2 ^ 64) ≡ true → P)
    → list_any test (run_of a n) ≡ true → P
unfolding run_of
reached P test a zero each found = cc
reached P test a (suc n) each found = elim (or_cases (test (a % 2 ^ 64)) (list_any test (run_of (a + 1) n)) found) [
  | inl here ↦
      let first : a ≡ a + 0 = omega arith in
      each 0 (omega arith) (ap (λ x. test (x % 2 ^ 64)) (sym first) ∙ here)
  | inr later ↦
      reached P test (a + 1) n (λ k lt passes.
      let next : a + suc k ≡ a + 1 + k = omega arith in
      each (suc k) (omega (arith, lt)) (ap (λ x. test (x % 2 ^ 64)) next ∙ passes)) later
]

owned_before : (any there owned : Bool) → (any ≡ true → there ≡ true → owned ≡ true) → ((any && there) || owned) ≡ owned
owned_before true true true was = refl
owned_before true true false was = sym (was refl refl)
owned_before true false owned was = refl
owned_before false there owned was = refl

-- a write to owned pages owns no more
pub owns_no_more : (old new : PageTable) (address n : ℕ) → AreOwned old address n → OwnsAlso old new (run_of address n)
    → OwnsAlso old new []
owns_no_more old new address n owned owns number =
    owns number
    ∙ owned_before (list_any (λ a. a / 4096 == number) (run_of address n)) (is_some (get old.memory.perm number))
    (contains old.owned number)
    (λ any there. reached (contains old.owned number ≡ true) (λ a. a / 4096 == number) address n
    (λ k lt here.
    subst (λ p. is_some (get old.memory.perm p) ≡ true → contains old.owned p ≡ true) (eqb-true _ _ here) (owned k lt) there) any)

-- the page of the first byte is owned where the pages of all are
pub owned_first : (t : PageTable) (a n : ℕ) → AreOwned t a n → a < 2 ^ 64 → 0 < n → IsSome (get t.memory.perm (a / 4096))
    → IsOwned t (a / 4096)
owned_first t a n owned low some there =
    let place : (a + 0) % 2 ^ 64 / 4096 ≡ a / 4096 = omega (arith, low) in
    let is : IsSome (get t.memory.perm ((a + 0) % 2 ^ 64 / 4096)) = rw place there in
    rw place at (owned 0 some is)

-- ---- runs within a page, and one after the other

-- where a run within a page ends, it has left no other page
run_place : (a n k : ℕ) → a < 2 ^ 64 → a % 4096 + n ≤ 4096 → k < n → (a + k) % 2 ^ 64 / 4096 ≡ a / 4096
run_place a n k low fits l = omega (arith, low, fits, l)

first_hit : (a n number : ℕ) → a < 2 ^ 64 → 0 < n → (a / 4096 == number) ≡ true
    → list_any (λ x. x / 4096 == number) (run_of a n) ≡ true
unfolding run_of
first_hit a zero number low some is = absurd (omega (arith, some))
first_hit a (suc n) number low some is =
    let same : a % 2 ^ 64 ≡ a = omega (arith, low) in
    ap (λ x. (x / 4096 == number) || list_any (λ y. y / 4096 == number) (run_of (a + 1) n)) same
    ∙ ap (λ b. b || list_any (λ y. y / 4096 == number) (run_of (a + 1) n)) is

only_page : (found is : Bool) → (is ≡ true → found ≡ true) → (found ≡ true → is ≡ true) → found ≡ is
only_page true true there back = refl
only_page true false there back = sym (back refl)
only_page false true there back = there refl
only_page false false there back = refl

-- the bytes of a run within a page lie in that page alone
pub run_page : (a n number : ℕ) → a < 2 ^ 64 → 0 < n → a % 4096 + n ≤ 4096
    → list_any (λ x. x / 4096 == number) (run_of a n) ≡ (a / 4096 == number)
run_page a n number low some fits =
    only_page (list_any (λ x. x / 4096 == number) (run_of a n)) (a / 4096 == number) (first_hit a n number low some)
    (λ found. reached ((a / 4096 == number) ≡ true) (λ x. x / 4096 == number) a n
    (λ k l here. ap (λ p. p == number) (sym (run_place a n k low fits l)) ∙ here) found)

same_run : (a b n : ℕ) → a % 2 ^ 64 ≡ b % 2 ^ 64 → run_of a n ≡ run_of b n
unfolding run_of
same_run a b zero e = refl
same_run a b (suc n) e =
    let next : (a + 1) % 2 ^ 64 ≡ (b + 1) % 2 ^ 64 = omega (arith, e) in
    ap (λ x. x ∷ run_of (a + 1) n) e ∙ ap (λ xs. b % 2 ^ 64 ∷ xs) (same_run (a + 1) (b + 1) n next)

pub run_of-append : (a d n : ℕ) → run_of a (d + n) ≡ run_of a d ++ run_of ((a + d) % 2 ^ 64) n
unfolding run_of
run_of-append a zero n =
    let count : 0 + n ≡ n = omega arith in
    let place : a % 2 ^ 64 ≡ (a + 0) % 2 ^ 64 % 2 ^ 64 = omega arith in
    rw count (same_run a ((a + 0) % 2 ^ 64) n place)
run_of-append a (suc d) n =
    let count : suc d + n ≡ suc (d + n) = omega arith in
    let place : a + suc d ≡ a + 1 + d = omega arith in
    rw (count, place) (ap (λ xs. a % 2 ^ 64 ∷ xs) (run_of-append (a + 1) d n))

-- one more run, after others
pub owns_next : (old now new : PageTable) (a d n : ℕ) → now.memory.perm ≡ old.memory.perm → OwnsAlso old now (run_of a d)
    → OwnsAlso now new (run_of ((a + d) % 2 ^ 64) n) → OwnsAlso old new (run_of a (d + n))
owns_next old now new a d n same before next =
    let addresses : run_of a d ++ run_of ((a + d) % 2 ^ 64) n ≡ run_of a (d + n) = sym (run_of-append a d n) in
    subst (λ xs. OwnsAlso old new xs) addresses
    (owns_both old now new (run_of a d) (run_of ((a + d) % 2 ^ 64) n) same before next)

pub owns_nothing_yet : (t : PageTable) (a : ℕ) → OwnsAlso t t (run_of a 0)
unfolding run_of
owns_nothing_yet t a number = refl

touched_page : (here there owned : Bool) → (here ≡ true → there ≡ true) → (here || owned) ≡ ((here && there) || owned)
touched_page true true owned is = refl
touched_page true false owned is = sym (ap (λ b. b || owned) (is refl))
touched_page false there owned is = refl

-- the page of a run within it is owned besides
pub owns_page : (old new : PageTable) (a n : ℕ) → a < 2 ^ 64 → 0 < n → a % 4096 + n ≤ 4096 → IsSome (get old.memory.perm (a / 4096))
    → new.owned ≡ set.insert old.owned (a / 4096) → OwnsAlso old new (run_of a n)
owns_page old new a n low some fits there is number =
    ap (λ s. contains s number) is ∙ contains-insert nat_cmp_total old.owned (a / 4096) number
    ∙ ap (λ b. b || contains old.owned number) (eq_by_cmp-nat number (a / 4096))
    ∙ touched_page (a / 4096 == number) (is_some (get old.memory.perm number)) (contains old.owned number)
    (λ t. subst (λ k. is_some (get old.memory.perm k) ≡ true) (eqb-true (a / 4096) number t) there)
    ∙ ap (λ b. (b && is_some (get old.memory.perm number)) || contains old.owned number) (sym (run_page a n number low some fits))

untouched_page : (here there owned : Bool) → (here ≡ true → there ≡ false) → owned ≡ ((here && there) || owned)
untouched_page true true owned is = absurd (true≢false (is refl))
untouched_page true false owned is = refl
untouched_page false there owned is = refl

-- and no page, where the run lies in none
pub owns_no_page : (t : PageTable) (a n : ℕ) → a < 2 ^ 64 → 0 < n → a % 4096 + n ≤ 4096 → get t.memory.perm (a / 4096) ≡ None
    → OwnsAlso t t (run_of a n)
owns_no_page t a n low some fits gone number =
    untouched_page (a / 4096 == number) (is_some (get t.memory.perm number)) (contains t.owned number)
    (λ is. ap is_some (subst (λ k. get t.memory.perm k ≡ None) (eqb-true (a / 4096) number is) gone))
    ∙ ap (λ b. (b && is_some (get t.memory.perm number)) || contains t.owned number) (sym (run_page a n number low some fits))
