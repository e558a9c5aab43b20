-- Which pages have bytes of their own.
use Rattle.std.proofs.Common.{◌≡◌, ℕ, zero, suc, ◌+◌, ◌*◌, ◌<◌, ◌==◌, Bool, true, false, cond, List, [], ◌∷◌, length, get_or, set, refl}
use Rattle.std.proofs.Common.{ap, sym, ◌∙◌, subst, arith, Option, Some, None, slice_get, option_map, true≢false}
use Rattle.std.specs.Prelude.{◌||◌, map, IsSome, IsTrue, is_some, count_by, Result, Ok, Err, OnOk, OnErr, is_ok}
use Rattle.std.specs.List.{AllByRecursion}
use Rattle.std.proofs.lemmas.Bool.Decides.{nat_tests}
use Rattle.std.proofs.lemmas.List.Elements.{recursion_from_All}
use Rattle.std.proofs.lemmas.List.Sums.{sum_by-cons}
use Rattle.std.proofs.lemmas.List.{get_or-set_same, length-set}
use Rattle.std.proofs.lemmas.Bool.{eqb-true}
use Rattle.std.specs.FinMap.{get, insert}
use Rattle.std.specs.FinMap.Entries.{below_all, is_sorted}
use Rattle.std.specs.FinSet.{FinSet, contains, contains-insert, contains-empty, same_set, nat_cmp-IsAntisymmetric, len, len-empty, len-insert}
use Rattle.std.specs.FinSet as fin
use Rattle.std.specs.Cmp.{nat_cmp_total}
use Rattle.std.specs.Ordering.{nat_cmp, is_lt, eq_by_cmp}
use Rattle.plain_lemmas.proofs.Tests.{and_second, and_first, eq_by_cmp-nat}
use Rattle.paged_memory.specs.declared.page.Page.{Page}
use Rattle.paged_memory.specs.Memory.{set_bytes}
use Rattle.paged_memory.specs.PageTable.{IsOwned}
use Rattle.paged_memory.specs.Pages.{page_entry, page_at, mem_of, perm_of, own_numbers, memory_of, table_of, IsFine, AreHeld}
use Rattle.paged_memory.proofs.Bytes.{get-perm_of}
use Rattle.paged_memory.proofs.Order.{found_at}
use Rattle.paged_memory.proofs.Set.{page_at-set, found_number, found_page}
use Rattle.paged_memory.proofs.Owned.{or_true}

-- the bytes of the page, if there is one, are its own
abbrev pub owned_in : Option Page → Bool
owned_in None = false
owned_in (Some p) = p.bytes.own

later_number : (k n : ℕ) → is_lt (nat_cmp k n) ≡ true → (n == k) ≡ false
later_number k n h = grind (arith, nat_tests)

none_later : (ps : List Page) (k : ℕ) → below_all nat_cmp k (map page_entry ps) ≡ true → page_at ps k ≡ None
none_later [] k h = refl
none_later (p ∷ ps) k h = rw (later_number k p.number (and_first _ _ h)) (none_later ps k (and_second _ _ h))

or_owned : (t : Bool) (p : Page) (rest : Option Page) → p.bytes.own ≡ true
    → (t || owned_in rest) ≡ owned_in (cond t (Some p) rest)
or_owned true p rest own = sym own
or_owned false p rest own = refl

owned_step : (own : Bool) (s : FinSet nat_cmp) (p : Page) (rest : Option Page) (n : ℕ) → p.bytes.own ≡ own
    → contains s n ≡ owned_in rest → ((p.number == n) ≡ true → rest ≡ None)
    → contains (cond own (fin.insert s p.number) s) n ≡ owned_in (cond (p.number == n) (Some p) rest)
owned_step true s p rest n is e none =
    contains-insert nat_cmp_total s p.number n ∙ ap (λ b. b || contains s n) (eq_by_cmp-nat n p.number)
    ∙ ap (λ b. (p.number == n) || b) e ∙ or_owned (p.number == n) p rest is
owned_step false s p rest n is e none =
    e ∙ elim (p.number == n) as (λ t. (p.number == n) ≡ t → owned_in rest ≡ owned_in (cond t (Some p) rest)) [
      | true ↦ λ t. ap owned_in (none t) ∙ sym is
      | false ↦ λ t. refl
    ] refl

pub contains-own_numbers : (ps : List Page) (n : ℕ) → is_sorted nat_cmp (map page_entry ps) ≡ true
    → contains (own_numbers ps) n ≡ owned_in (page_at ps n)
unfolding own_numbers
contains-own_numbers [] n h = contains-empty nat_cmp n
contains-own_numbers (p ∷ ps) n h =
    owned_step p.bytes.own (own_numbers ps) p (page_at ps n) n refl (contains-own_numbers ps n (and_second _ _ h))
    (λ t. subst (λ k. page_at ps k ≡ None) (eqb-true p.number n t) (none_later ps p.number (and_first _ _ h)))

-- ---- one page that is changed

-- no bytes are changed
mem_of-kept : (ps : List Page) (i : ℕ) (new d : Page) → i < length ps → new.number ≡ (get_or ps i d).number
    → new.bytes.items ≡ (get_or ps i d).bytes.items → mem_of (set ps i new) ≡ mem_of ps
unfolding mem_of
mem_of-kept [] i new d l e f = absurd (omega arith)
mem_of-kept (p ∷ ps) zero new d l e f = rw (e, f) refl
mem_of-kept (p ∷ ps) (suc i) new d l e f =
    ap (λ m. set_bytes m (4096 * p.number) p.bytes.items) (mem_of-kept ps i new d (omega arith) e f)

perm_of-kept : (ps : List Page) (i : ℕ) (new d : Page) → i < length ps → new.number ≡ (get_or ps i d).number
    → new.flags ≡ (get_or ps i d).flags → perm_of (set ps i new) ≡ perm_of ps
unfolding perm_of
perm_of-kept [] i new d l e f = absurd (omega arith)
perm_of-kept (p ∷ ps) zero new d l e f = rw (e, f) refl
perm_of-kept (p ∷ ps) (suc i) new d l e f =
    ap (λ m. insert m p.number p.flags) (perm_of-kept ps i new d (omega arith) e f)

pub memory_of-kept : (ps : List Page) (i : ℕ) (new d : Page) → i < length ps → new.number ≡ (get_or ps i d).number
    → new.flags ≡ (get_or ps i d).flags → new.bytes.items ≡ (get_or ps i d).bytes.items
    → memory_of (set ps i new) ≡ memory_of ps
memory_of-kept ps i new d l e f g =
    let mem : mem_of (set ps i new) ≡ mem_of ps = mem_of-kept ps i new d l e g in
    let perm : perm_of (set ps i new) ≡ perm_of ps = perm_of-kept ps i new d l e f in
    λ j. record { mem = mem j; perm = perm j }

pub numbers_of-kept : (ps : List Page) (i : ℕ) (new d : Page) → i < length ps → new.number ≡ (get_or ps i d).number
    → new.bytes.own ≡ (get_or ps i d).bytes.own → own_numbers (set ps i new) ≡ own_numbers ps
unfolding own_numbers
numbers_of-kept [] i new d l e f = absurd (omega arith)
numbers_of-kept (p ∷ ps) zero new d l e f = rw (e, f) refl
numbers_of-kept (p ∷ ps) (suc i) new d l e f =
    ap (λ s. cond p.bytes.own (fin.insert s p.number) s) (numbers_of-kept ps i new d (omega arith) e f)

-- the page of a number is owned besides
pub numbers_of-own : (ps : List Page) (i n : ℕ) (new d : Page) → IsFine ps → IsFine (set ps i new) → i < length ps
    → page_at ps n ≡ slice_get ps i → new.number ≡ (get_or ps i d).number → new.bytes.own ≡ true
    → own_numbers (set ps i new) ≡ fin.insert (own_numbers ps) n
numbers_of-own ps i n new d fine fine' l found e own =
    let number : new.number ≡ n = e ∙ found_number ps n i d l found in
    same_set nat_cmp_total nat_cmp-IsAntisymmetric _ _ (λ q.
    contains-own_numbers (set ps i new) q fine'.sorted ∙ ap owned_in (page_at-set ps i new d q fine.sorted l e)
    ∙ sym (or_owned (new.number == q) new (page_at ps q) own)
    ∙ sym (contains-insert nat_cmp_total (own_numbers ps) n q ∙ ap (λ b. b || contains (own_numbers ps) q) (eq_by_cmp-nat q n)
    ∙ ap (λ k. (k == q) || contains (own_numbers ps) q) (sym number)
    ∙ ap (λ b. (new.number == q) || b) (contains-own_numbers ps q fine.sorted)))

-- the page stands where it stood
pub page_at-kept : (ps : List Page) (i n : ℕ) (new d : Page) → IsFine (set ps i new) → i < length ps → page_at ps n ≡ slice_get ps i
    → new.number ≡ (get_or ps i d).number → page_at (set ps i new) n ≡ slice_get (set ps i new) i
page_at-kept ps i n new d fine' l found e =
    let inside : i < length (set ps i new) = rw (length-set ps i new) l in
    found_at (set ps i new) i n d fine' inside
    (ap (λ p. p.number) (get_or-set_same ps i new d l) ∙ e ∙ found_number ps n i d l found)

-- the page that is found is owned where its bytes are its own
pub owned_at : (ps : List Page) (i n : ℕ) (d : Page) → IsFine ps → i < length ps → page_at ps n ≡ slice_get ps i
    → contains (own_numbers ps) n ≡ (get_or ps i d).bytes.own
owned_at ps i n d fine l found = contains-own_numbers ps n fine.sorted ∙ ap owned_in (found_page ps n i d l found)

-- ---- all pages, or none

none_of_all : (ps : List Page) → AllByRecursion (λ p. p.bytes.own ≡ false) ps → own_numbers ps ≡ fin.empty
unfolding own_numbers
none_of_all [] h = refl
none_of_all (p ∷ ps) h = rw h.0 (none_of_all ps h.1)

pub none_owned : (ps : List Page) → AreHeld false ps → len (own_numbers ps) ≡ 0
none_owned ps h =
    ap len (none_of_all ps (recursion_from_All (λ p. p.bytes.own ≡ false) ps h)) ∙ len-empty nat_cmp

own_at_each : (ps : List Page) (n : ℕ) → AllByRecursion (λ p. p.bytes.own ≡ true) ps → IsSome (option_map (λ p. p.flags) (page_at ps n))
    → owned_in (page_at ps n) ≡ true
own_at_each [] n h there = cc
own_at_each (p ∷ ps) n h there =
    elim (p.number == n) as (λ t. IsSome (option_map (λ p. p.flags) (cond t (Some p) (page_at ps n)))
    → owned_in (cond t (Some p) (page_at ps n)) ≡ true) [
      | true ↦ λ s. h.0
      | false ↦ λ s. own_at_each ps n h.1 s
    ] there

pub all_owned : (ps : List Page) (n : ℕ) → IsFine ps → AreHeld true ps → IsSome (get (perm_of ps) n) → IsOwned (table_of ps) n
all_owned ps n fine held there =
    contains-own_numbers ps n fine.sorted
    ∙ own_at_each ps n (recursion_from_All (λ p. p.bytes.own ≡ true) ps held) (ap is_some (sym (get-perm_of ps n)) ∙ there)

-- ---- how many there are

one_more_owned : (own : Bool) (s : FinSet nat_cmp) (n count : ℕ) → len s ≡ count → contains s n ≡ false
    → len (cond own (fin.insert s n) s) ≡ cond own (count + 1) count
one_more_owned true s n count e none = len-insert nat_cmp_total s n ∙ rw (none, e) refl
one_more_owned false s n count e none = e

counted : (own : Bool) (count : ℕ) → cond own (count + 1) count ≡ cond own 1 0 + count
counted true count = omega arith
counted false count = omega arith

pub len-own_numbers : (ps : List Page) → is_sorted nat_cmp (map page_entry ps) ≡ true
    → len (own_numbers ps) ≡ count_by (λ p. p.bytes.own) ps
unfolding own_numbers
len-own_numbers [] h = len-empty nat_cmp
len-own_numbers (p ∷ ps) h =
    one_more_owned p.bytes.own (own_numbers ps) p.number (count_by (λ p. p.bytes.own) ps) (len-own_numbers ps (and_second _ _ h))
    (contains-own_numbers ps p.number (and_second _ _ h) ∙ ap owned_in (none_later ps p.number (and_first _ _ h)))
    ∙ counted p.bytes.own (count_by (λ p. p.bytes.own) ps)
    ∙ sym (sum_by-cons (λ p. cond p.bytes.own 1 0) p ps)

-- ---- what an answer gives

-- what an answer that is an error shows to be false
pub answer_is_ok : {V E : Type 0} (r : Result V E) (b : Bool) → OnErr r (b ≡ false) → b ≡ true → IsTrue (is_ok r)
answer_is_ok (Ok v) b h e = refl
answer_is_ok (Err x) b h e = absurd (true≢false (sym e ∙ h))

-- a member besides, or none, and those that were are members still
pub still_members : {V E : Type 0} (r : Result V E) (s t : FinSet nat_cmp) (k n : ℕ) → OnOk r (t ≡ fin.insert s k) → OnErr r (t ≡ s)
    → contains s n ≡ true → contains t n ≡ true
still_members (Ok v) s t k n more same h =
    ap (λ x. contains x n) more ∙ contains-insert nat_cmp_total s k n ∙ ap (λ b. eq_by_cmp nat_cmp n k || b) h
    ∙ or_true (eq_by_cmp nat_cmp n k)
still_members (Err x) s t k n more same h = ap (λ x. contains x n) same ∙ h

there_at : (ps : List Page) (i : ℕ) → i < length ps → is_some (option_map (λ p. p.flags) (slice_get ps i)) ≡ true
there_at [] i l = absurd (omega arith)
there_at (p ∷ ps) zero l = refl
there_at (p ∷ ps) (suc i) l = there_at ps i (omega arith)

-- a page that is found is there
pub found_some : (ps : List Page) (n i : ℕ) → i < length ps → page_at ps n ≡ slice_get ps i → IsSome (get (perm_of ps) n)
found_some ps n i l found = ap is_some (get-perm_of ps n ∙ ap (option_map (λ p. p.flags)) found) ∙ there_at ps i l

pub itself_member : (s : FinSet nat_cmp) (k : ℕ) → contains (fin.insert s k) k ≡ true
itself_member s k =
    let same : (k == k) ≡ true = grind (arith, nat_tests) in
    contains-insert nat_cmp_total s k k ∙ ap (λ b. b || contains s k) (eq_by_cmp-nat k k ∙ same)
