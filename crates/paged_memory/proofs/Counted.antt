-- How many pages are owned: as many more as were shared.
use Rattle.std.proofs.Common.{◌≡◌, ℕ, ◌+◌, ◌/◌, ◌==◌, Bool, true, false, cond, List, [], ◌∷◌, refl, ap, ap₂, sym, ◌∙◌, arith}
use Rattle.std.proofs.lemmas.Bool.{eqb-true}
use Rattle.std.specs.Prelude.{◌||◌, ◌&&◌, not, is_some}
use Rattle.std.specs.List.{list_any}
use Rattle.std.specs.FinMap.{get}
use Rattle.std.specs.FinSet.{FinSet, contains, contains-insert, contains-empty, len, len-insert, len-empty, same_set}
use Rattle.std.specs.FinSet.{nat_cmp-IsAntisymmetric}
use Rattle.std.specs.FinSet as set
use Rattle.std.specs.Cmp.{nat_cmp_total}
use Rattle.std.specs.Ordering.{nat_cmp}
use Rattle.plain_lemmas.proofs.Tests.{and-false, eq_by_cmp-nat}
use Rattle.paged_memory.specs.PageTable.{PageTable, is_touched, OwnsAlso, shared_pages, owned_count}
use Rattle.paged_memory.proofs.Owned.{or_true}

-- the pages of the bytes at these addresses besides those that are owned
with_pages : PageTable → List ℕ → FinSet nat_cmp
with_pages t [] = t.owned
with_pages t (a ∷ addresses) =
    cond (is_some (get t.memory.perm (a / 4096))) (set.insert (with_pages t addresses) (a / 4096)) (with_pages t addresses)

one_page : (there : Bool) (s : FinSet nat_cmp) (k n : ℕ) (later here : Bool) → contains s n ≡ later
    → ((k == n) ≡ true → here ≡ there) → contains (cond there (set.insert s k) s) n ≡ (((k == n) && here) || later)
one_page true s k n later here e is =
    contains-insert nat_cmp_total s k n ∙ ap (λ b. b || contains s n) (eq_by_cmp-nat n k) ∙ ap (λ b. (k == n) || b) e
    ∙ ap (λ b. b || later) (elim (k == n) as (λ t. (k == n) ≡ t → t ≡ (t && here)) [ true ↦ λ t. sym (is t) | false ↦ λ t. refl ] refl)
one_page false s k n later here e is =
    e ∙ ap (λ b. b || later) (elim (k == n) as (λ t. (k == n) ≡ t → false ≡ (t && here)) [
      | true ↦ λ t. sym (is t)
      | false ↦ λ t. refl
    ] refl)

or_both : (a b there owned : Bool) → ((a && there) || ((b && there) || owned)) ≡ (((a || b) && there) || owned)
or_both true true true owned = refl
or_both true true false owned = refl
or_both true false true owned = refl
or_both true false false owned = refl
or_both false b there owned = refl

contains-with_pages : (t : PageTable) (addresses : List ℕ) (n : ℕ)
    → contains (with_pages t addresses) n ≡ (is_touched t.memory addresses n || contains t.owned n)
unfolding with_pages
contains-with_pages t [] n = refl
contains-with_pages t (a ∷ addresses) n =
    one_page (is_some (get t.memory.perm (a / 4096))) (with_pages t addresses) (a / 4096) n
    (is_touched t.memory addresses n || contains t.owned n) (is_some (get t.memory.perm n)) (contains-with_pages t addresses n)
    (λ is. ap (λ k. is_some (get t.memory.perm k)) (sym (eqb-true (a / 4096) n is)))
    ∙ or_both (a / 4096 == n) (list_any (λ x. x / 4096 == n) addresses) (is_some (get t.memory.perm n)) (contains t.owned n)

one_shared : (there owned : Bool) (s : FinSet nat_cmp) (k n : ℕ) (any here was : Bool) → contains s n ≡ ((any && here) && not was)
    → ((k == n) ≡ true → here ≡ there) → ((k == n) ≡ true → was ≡ owned)
    → contains (cond (there && not owned) (set.insert s k) s) n ≡ ((((k == n) || any) && here) && not was)
one_shared true false s k n any here was e is was_is =
    contains-insert nat_cmp_total s k n ∙ ap (λ b. b || contains s n) (eq_by_cmp-nat n k) ∙ ap (λ b. (k == n) || b) e
    ∙ elim (k == n) as (λ t. (k == n) ≡ t → (t || ((any && here) && not was)) ≡ (((t || any) && here) && not was)) [
      | true ↦ λ t. sym (ap₂ (λ h w. h && not w) (is t) (was_is t))
      | false ↦ λ t. refl
    ] refl
one_shared true true s k n any here was e is was_is =
    e ∙ elim (k == n) as (λ t. (k == n) ≡ t → ((any && here) && not was) ≡ (((t || any) && here) && not was)) [
      | true ↦ λ t. ap (λ w. (any && here) && not w) (was_is t) ∙ and-false (any && here)
          ∙ sym (ap (λ w. here && not w) (was_is t) ∙ and-false here)
      | false ↦ λ t. refl
    ] refl
one_shared false owned s k n any here was e is was_is =
    e ∙ elim (k == n) as (λ t. (k == n) ≡ t → ((any && here) && not was) ≡ (((t || any) && here) && not was)) [
      | true ↦ λ t. ap (λ h. (any && h) && not was) (is t) ∙ ap (λ b. b && not was) (and-false any) ∙ sym (ap (λ h. h && not was) (is t))
      | false ↦ λ t. refl
    ] refl

contains-shared_pages : (t : PageTable) (addresses : List ℕ) (n : ℕ)
    → contains (shared_pages t addresses) n ≡ (is_touched t.memory addresses n && not (contains t.owned n))
unfolding shared_pages
contains-shared_pages t [] n = contains-empty nat_cmp n
contains-shared_pages t (a ∷ addresses) n =
    one_shared (is_some (get t.memory.perm (a / 4096))) (contains t.owned (a / 4096)) (shared_pages t addresses) (a / 4096) n
    (list_any (λ x. x / 4096 == n) addresses) (is_some (get t.memory.perm n)) (contains t.owned n) (contains-shared_pages t addresses n)
    (λ is. ap (λ k. is_some (get t.memory.perm k)) (sym (eqb-true (a / 4096) n is)))
    (λ is. ap (contains t.owned) (sym (eqb-true (a / 4096) n is)))

no_longer : (s : FinSet nat_cmp) (k : ℕ) → contains s k ≡ true → len (set.insert s k) ≡ len s
no_longer s k e = len-insert nat_cmp_total s k ∙ ap (λ t. cond t (len s) (len s + 1)) e

longer : (s : FinSet nat_cmp) (k : ℕ) → contains s k ≡ false → len (set.insert s k) ≡ len s + 1
longer s k e = len-insert nat_cmp_total s k ∙ ap (λ t. cond t (len s) (len s + 1)) e

count_step : (there owned : Bool) (w s : FinSet nat_cmp) (k count : ℕ) (touched : Bool) → contains w k ≡ (touched || owned)
    → contains s k ≡ (touched && not owned) → len w ≡ count + len s
    → len (cond there (set.insert w k) w) ≡ count + len (cond (there && not owned) (set.insert s k) s)
count_step false owned w s k count touched in_w in_s e = e
count_step true true w s k count touched in_w in_s e = no_longer w k (in_w ∙ or_true touched) ∙ e
count_step true false w s k count true in_w in_s e = no_longer w k in_w ∙ e ∙ sym (ap (λ n. count + n) (no_longer s k in_s))
count_step true false w s k count false in_w in_s e =
    let more : len w + 1 ≡ count + (len s + 1) = omega (arith, e) in
    longer w k in_w ∙ more ∙ sym (ap (λ n. count + n) (longer s k in_s))

len-with_pages : (t : PageTable) (addresses : List ℕ)
    → len (with_pages t addresses) ≡ len t.owned + len (shared_pages t addresses)
unfolding with_pages shared_pages
len-with_pages t [] =
    let none : len t.owned ≡ len t.owned + 0 = omega arith in
    none ∙ ap (λ n. len t.owned + n) (sym (len-empty nat_cmp))
len-with_pages t (a ∷ addresses) =
    count_step (is_some (get t.memory.perm (a / 4096))) (contains t.owned (a / 4096)) (with_pages t addresses)
    (shared_pages t addresses) (a / 4096) (len t.owned) (is_touched t.memory addresses (a / 4096))
    (contains-with_pages t addresses (a / 4096)) (contains-shared_pages t addresses (a / 4096)) (len-with_pages t addresses)

-- there are as many more as were shared
pub owned_count-also : (old new : PageTable) (addresses : List ℕ) → OwnsAlso old new addresses
    → owned_count new ≡ owned_count old + len (shared_pages old addresses)
owned_count-also old new addresses owns =
    let all : new.owned ≡ with_pages old addresses =
    same_set nat_cmp_total nat_cmp-IsAntisymmetric _ _ (λ n. owns n ∙ sym (contains-with_pages old addresses n)) in
    ap len all ∙ len-with_pages old addresses
