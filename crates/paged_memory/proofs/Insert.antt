-- One more page, at its place.
use Rattle.std.proofs.Common.{◌≡◌, ℕ, zero, suc, ◌*◌, ◌/◌, ◌%◌, ◌^◌, ◌<◌, ◌≤◌, true, false, cond, List, [], ◌∷◌, length, get_or, take, drop}
use Rattle.std.proofs.Common.{refl, ap, sym, ◌∙◌, arith, Option, Some, None, slice_get, option_map, All}
use Rattle.std.specs.Prelude.{◌==◌, map}
use Rattle.std.specs.List.{insert}
use Rattle.std.specs.FinMap.{get, get-insert, same_map, nat_cmp-IsAntisymmetric}
use Rattle.std.specs.FinMap.Entries.{below_all, is_sorted}
use Rattle.std.specs.Cmp.{nat_cmp_total}
use Rattle.std.specs.Ordering.{nat_cmp, is_lt}
use Rattle.std.proofs.lemmas.Bool.Decides.{nat_tests}
use Rattle.std.proofs.lemmas.List.Elements.{recursion_from_All, All-append, All-cons, All-take, All-drop}
use Rattle.std.proofs.lemmas.Bool.{and_from}
use Rattle.plain_lemmas.proofs.Tests.{and_second, and_first, eq_by_cmp-nat}
use Rattle.paged_memory.specs.declared.page.Page.{Page}
use Rattle.paged_memory.specs.Memory.{AddressSpace, with_page}
use Rattle.paged_memory.specs.Pages.{page_entry, page_at, perm_of, memory_of, IsFine}
use Rattle.paged_memory.proofs.Over.{over, get-set_bytes}
use Rattle.paged_memory.proofs.Bytes.{bind, get-perm_of, get-mem_of, get_mem_step, get_perm_step}

absent : (o : Option Page) → option_map (λ p. p.flags) o ≡ None → o ≡ None
absent None h = refl
absent (Some p) h = cc

pub page_absent : (ps : List Page) (n : ℕ) → get (perm_of ps) n ≡ None → page_at ps n ≡ None
page_absent ps n h = absent (page_at ps n) (sym (get-perm_of ps n) ∙ h)

first_apart : (e : Page) (ps : List Page) (n : ℕ) → page_at (e ∷ ps) n ≡ None → (e.number == n) ≡ false
first_apart e ps n h =
    elim (e.number == n) as (λ t. cond t (Some e) (page_at ps n) ≡ None → t ≡ false) [
      | true ↦ λ x. cc
      | false ↦ λ x. refl
    ] h

pub page_at-insert : (ps : List Page) (i : ℕ) (p : Page) (n : ℕ) → page_at ps p.number ≡ None
    → page_at (insert ps i p) n ≡ cond (p.number == n) (Some p) (page_at ps n)
page_at-insert [] zero p n h = refl
page_at-insert [] (suc i) p n h = refl
page_at-insert (e ∷ ps) zero p n h = refl
page_at-insert (e ∷ ps) (suc i) p n h =
    let apart : (e.number == p.number) ≡ false = first_apart e ps p.number h in
    let rest : page_at ps p.number ≡ None = rw apart at h in
    rw (page_at-insert ps i p n rest) (elim (e.number == n) as (λ t. (e.number == n) ≡ t
    → cond t (Some e) (cond (p.number == n) (Some p) (page_at ps n)) ≡ cond (p.number == n) (Some p) (cond t (Some e) (page_at ps n))) [
      | true ↦ λ t. let u : (p.number == n) ≡ false = grind (arith, nat_tests) in rw u refl
      | false ↦ λ t. refl
    ] refl)

All-insert : (P : Page → Type 0) (ps : List Page) (i : ℕ) (p : Page) → All P ps → P p → All P (insert ps i p)
All-insert P ps i p all here =
    All-append P (take i ps) (p ∷ drop i ps) (All-take P i ps all) (All-cons P p (drop i ps) here (All-drop P i ps all))

below_all-insert : (k : ℕ) (ps : List Page) (i : ℕ) (p : Page) → below_all nat_cmp k (map page_entry ps) ≡ true
    → is_lt (nat_cmp k p.number) ≡ true → below_all nat_cmp k (map page_entry (insert ps i p)) ≡ true
below_all-insert k [] zero p h l = and_from _ _ l refl
below_all-insert k [] (suc i) p h l = and_from _ _ l refl
below_all-insert k (e ∷ ps) zero p h l = and_from _ _ l h
below_all-insert k (e ∷ ps) (suc i) p h l = and_from _ _ (and_first _ _ h) (below_all-insert k ps i p (and_second _ _ h) l)

number_less : (k n : ℕ) → k < n → is_lt (nat_cmp k n) ≡ true
number_less k n h = grind (arith, nat_tests)

below_all-pages : (k : ℕ) (ps : List Page) → ((j : ℕ) (d : Page) → j < length ps → k < (get_or ps j d).number)
    → below_all nat_cmp k (map page_entry ps) ≡ true
below_all-pages k [] h = refl
below_all-pages k (p ∷ ps) h =
    and_from _ _ (number_less k p.number (h 0 p (omega arith))) (below_all-pages k ps (λ j d l. h (suc j) d (omega arith)))

sorted-insert : (ps : List Page) (i : ℕ) (p : Page) → is_sorted nat_cmp (map page_entry ps) ≡ true → i ≤ length ps
    → ((k : ℕ) (d : Page) → k < i → (get_or ps k d).number < p.number)
    → ((k : ℕ) (d : Page) → i ≤ k → k < length ps → p.number < (get_or ps k d).number)
    → is_sorted nat_cmp (map page_entry (insert ps i p)) ≡ true
sorted-insert ps zero p h l below above = and_from _ _ (below_all-pages p.number ps (λ j d m. above j d (omega arith) m)) h
sorted-insert [] (suc i) p h l below above = absurd (omega arith)
sorted-insert (e ∷ ps) (suc i) p h l below above =
    and_from _ _ (below_all-insert e.number ps i p (and_first _ _ h) (number_less e.number p.number (below 0 e (omega arith))))
    (sorted-insert ps i p (and_second _ _ h) (omega arith) (λ k d m. below (suc k) d (omega arith))
    (λ k d m n. above (suc k) d (omega arith) (omega arith)))

-- a page with the number is found, so where none is, each has another
page_at-there : (ps : List Page) (k : ℕ) (d : Page) (n : ℕ) → k < length ps → page_at ps n ≡ None → (get_or ps k d).number ≡ n → ⊥
page_at-there [] k d n l h e = absurd (omega arith)
page_at-there (p ∷ ps) zero d n l h e =
    let apart : (p.number == n) ≡ false = first_apart p ps n h in absurd (grind (arith, nat_tests))
page_at-there (p ∷ ps) (suc k) d n l h e =
    let apart : (p.number == n) ≡ false = first_apart p ps n h in
    page_at-there ps k d n (omega arith) (rw apart at h) e

not_same : (n m : ℕ) → n ≤ m → (m ≡ n → ⊥) → n < m
not_same n m l h = grind arith

pub fine_insert : (ps : List Page) (i : ℕ) (p : Page) → IsFine ps → i ≤ length ps
    → ((k : ℕ) (d : Page) → k < i → (get_or ps k d).number < p.number)
    → ((k : ℕ) (d : Page) → i ≤ k → k < length ps → p.number ≤ (get_or ps k d).number) → length p.bytes.items ≡ 4096 → p.flags < 8
    → p.number < 2 ^ 52 → get (perm_of ps) p.number ≡ None → IsFine (insert ps i p)
fine_insert ps i p fine l below rest whole sum low missing = record {
  full = All-insert (λ x. length x.bytes.items ≡ 4096) ps i p fine.full whole;
  flags = All-insert (λ x. x.flags < 8) ps i p fine.flags sum;
  low = All-insert (λ x. x.number < 2 ^ 52) ps i p fine.low low;
  sorted =
      sorted-insert ps i p fine.sorted l below
      (λ k d m n. not_same p.number _ (rest k d m n) (page_at-there ps k d p.number n (page_absent ps p.number missing)));
}

-- what a memory with one more page has at an address and at a number
pub mem-with_page : (m : AddressSpace) (n flags : ℕ) (bs : List ℕ) (a : ℕ) → length bs ≡ 4096 → n < 2 ^ 52
    → get (with_page m n flags bs).mem a ≡ over (4096 * n) bs a (get m.mem a)
unfolding with_page
mem-with_page m n flags bs a full low = get-set_bytes m.mem (4096 * n) bs a (rw full (omega arith))

pub perm-with_page : (m : AddressSpace) (n flags : ℕ) (bs : List ℕ) (q : ℕ)
    → get (with_page m n flags bs).perm q ≡ cond (n == q) (Some flags) (get m.perm q)
unfolding with_page
perm-with_page m n flags bs q = rw (get-insert nat_cmp_total, eq_by_cmp-nat) refl

pub same_memory : (m n : AddressSpace) → ((a : ℕ) → get m.mem a ≡ get n.mem a) → ((q : ℕ) → get m.perm q ≡ get n.perm q) → m ≡ n
same_memory m n bytes flags =
    let mem : m.mem ≡ n.mem = same_map nat_cmp_total nat_cmp-IsAntisymmetric _ _ bytes in
    let perm : m.perm ≡ n.perm = same_map nat_cmp_total nat_cmp-IsAntisymmetric _ _ flags in
    λ i. record { mem = mem i; perm = perm i }

pub memory_of-insert : (ps : List Page) (i : ℕ) (p : Page) → IsFine ps → IsFine (insert ps i p) → length p.bytes.items ≡ 4096
    → p.number < 2 ^ 52 → get (perm_of ps) p.number ≡ None
    → memory_of (insert ps i p) ≡ with_page (memory_of ps) p.number p.flags p.bytes.items
memory_of-insert ps i p fine fine' whole low missing =
    let none : page_at ps p.number ≡ None = page_absent ps p.number missing in
    same_memory _ _
    (λ a.
    get-mem_of (insert ps i p) a (recursion_from_All (λ x. length x.bytes.items ≡ 4096) _ fine'.full)
    (recursion_from_All (λ x. x.number < 2 ^ 52) _ fine'.low)
    ∙ ap (λ o. bind o (λ x. slice_get x.bytes.items (a % 4096))) (page_at-insert ps i p (a / 4096) none)
    ∙ sym (mem-with_page (memory_of ps) p.number p.flags p.bytes.items a whole low
    ∙ get_mem_step p (page_at ps (a / 4096)) a _ whole
    (get-mem_of ps a (recursion_from_All (λ x. length x.bytes.items ≡ 4096) ps fine.full)
    (recursion_from_All (λ x. x.number < 2 ^ 52) ps fine.low))))
    (λ q.
    get-perm_of (insert ps i p) q ∙ ap (option_map (λ x. x.flags)) (page_at-insert ps i p q none)
    ∙ sym (get_perm_step (p.number == q) p (page_at ps q))
    ∙ sym (perm-with_page (memory_of ps) p.number p.flags p.bytes.items q ∙ ap (cond (p.number == q) (Some p.flags)) (get-perm_of ps q)))
