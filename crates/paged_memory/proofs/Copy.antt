-- Pages one after another, in order.
use Rattle.std.proofs.Common.{◌≡◌, ℕ, zero, suc, ◌+◌, ◌^◌, ◌<◌, true, List, [], ◌∷◌, ◌++◌, length, get_or, take, refl, ap, sym, ◌∙◌}
use Rattle.std.proofs.Common.{arith, None, option_map, ne_of_lt}
use Rattle.std.specs.Prelude.{map}
use Rattle.std.specs.List.{insert}
use Rattle.std.specs.FinMap.{get}
use Rattle.std.specs.FinMap.Entries.{below_all, is_sorted}
use Rattle.std.specs.Ordering.{nat_cmp}
use Rattle.std.proofs.lemmas.List.{take_more, get_or-take, length-take-le}
use Rattle.std.proofs.lemmas.List.Edits.{insert_end}
use Rattle.std.proofs.lemmas.List.Elements.{All-take}
use Rattle.std.proofs.lemmas.Bool.{and_from}
use Rattle.plain_lemmas.proofs.Tests.{and_second, and_first}
use Rattle.paged_memory.specs.declared.page.Page.{Page}
use Rattle.paged_memory.specs.Memory.{with_page}
use Rattle.paged_memory.specs.Pages.{page_entry, page_at, perm_of, memory_of, IsFine}
use Rattle.paged_memory.proofs.Bytes.{get-perm_of}
use Rattle.paged_memory.proofs.Order.{page_at-none, numbers_rise}
use Rattle.paged_memory.proofs.Insert.{memory_of-insert}

below_all-take : (k : ℕ) (ps : List Page) (i : ℕ) → below_all nat_cmp k (map page_entry ps) ≡ true
    → below_all nat_cmp k (map page_entry (take i ps)) ≡ true
below_all-take k ps zero h = refl
below_all-take k [] (suc i) h = refl
below_all-take k (p ∷ ps) (suc i) h = and_from _ _ (and_first _ _ h) (below_all-take k ps i (and_second _ _ h))

sorted-take : (ps : List Page) (i : ℕ) → is_sorted nat_cmp (map page_entry ps) ≡ true
    → is_sorted nat_cmp (map page_entry (take i ps)) ≡ true
sorted-take ps zero h = refl
sorted-take [] (suc i) h = refl
sorted-take (p ∷ ps) (suc i) h = and_from _ _ (below_all-take p.number ps i (and_first _ _ h)) (sorted-take ps i (and_second _ _ h))

pub fine_take : (ps : List Page) (i : ℕ) → IsFine ps → IsFine (take i ps)
fine_take ps i fine = record {
  full = All-take (λ x. length x.bytes.items ≡ 4096) i ps fine.full;
  flags = All-take (λ x. x.flags < 8) i ps fine.flags;
  low = All-take (λ x. x.number < 2 ^ 52) i ps fine.low;
  sorted = sorted-take ps i fine.sorted;
}

-- none of the pages before one has its number
pub missing_before : (ps : List Page) (i : ℕ) (p : Page) → IsFine ps → i < length ps → p ≡ get_or ps i p
    → get (perm_of (take i ps)) p.number ≡ None
missing_before ps i p fine l is =
    let long : length (take i ps) ≡ i = length-take-le i ps (omega arith) in
    let none : page_at (take i ps) p.number ≡ None = page_at-none (take i ps) p.number (λ k d m.
    let inside : k < i = rw long at m in
    let rise : (get_or ps k d).number < (get_or ps i p).number = numbers_rise ps k i d p fine.sorted inside l in
    let same : (get_or ps i p).number ≡ p.number = ap (λ x. x.number) (sym is) in
    let before : (get_or ps k d).number < p.number = omega arith in
    rw (get_or-take i ps k d inside) (ne_of_lt before)) in
    get-perm_of (take i ps) p.number ∙ ap (option_map (λ x. x.flags)) none

-- one more of them
pub memory_of-more : (ps : List Page) (i : ℕ) (p : Page) → IsFine ps → i < length ps → p ≡ get_or ps i p
    → memory_of (take (i + 1) ps) ≡ with_page (memory_of (take i ps)) p.number p.flags p.bytes.items
memory_of-more ps i p fine l is =
    let more : take (i + 1) ps ≡ insert (take i ps) (length (take i ps)) p =
    take_more ps i p l ∙ ap (λ x. take i ps ++ x ∷ []) (sym is) ∙ sym (insert_end (take i ps) p) in
    let fine' : IsFine (insert (take i ps) (length (take i ps)) p) = rw more at (fine_take ps (i + 1) fine) in
    let whole : length p.bytes.items ≡ 4096 = ap (λ x. length x.bytes.items) is ∙ fine.full i p l in
    let low : p.number < 2 ^ 52 = rw is (fine.low i p l) in
    rw more (memory_of-insert (take i ps) (length (take i ps)) p (fine_take ps i fine) fine' whole low (missing_before ps i p fine l is))
