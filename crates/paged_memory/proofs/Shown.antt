-- The pages as they are shown, in the order of their numbers.
use Rattle.std.proofs.Common.{◌≡◌, ℕ, suc, ◌+◌, ◌*◌, ◌/◌, ◌%◌, ◌^◌, ◌<◌, List, [], ◌∷◌, length, get_or, refl, ap, sym, ◌∙◌, arith, Some}
use Rattle.std.proofs.Common.{slice_get}
use Rattle.std.proofs.lemmas.List.Elements.{recursion_from_All}
use Rattle.std.specs.FinMap.{FinMap, get, entries}
use Rattle.std.specs.Ordering.{nat_cmp}
use Rattle.paged_memory.specs.declared.page.Page.{Page}
use Rattle.paged_memory.specs.Memory.{AddressSpace, bytes_from}
use Rattle.paged_memory.specs.Pages.{page_entry, mem_of, memory_of, IsFine}
use Rattle.paged_memory.proofs.Bytes.{get-mem_of}
use Rattle.paged_memory.proofs.Order.{page_at-index, entries-perm_of, slice_get-entry}

bytes_from-list : (m : FinMap nat_cmp ℕ) (a : ℕ) (bs : List ℕ) → ((k : ℕ) → k < length bs → get m (a + k) ≡ slice_get bs k)
    → bytes_from m a (length bs) ≡ bs
unfolding bytes_from
bytes_from-list m a [] h = refl
bytes_from-list m a (b ∷ bs) h =
    let first : get m a ≡ Some b = let z : a + 0 ≡ a = omega arith in rw z at (h 0 (omega arith)) in
    let rest : bytes_from m (a + 1) (length bs) ≡ bs =
    bytes_from-list m (a + 1) bs (λ k l. let e : a + 1 + k ≡ a + suc k = omega arith in rw e (h (suc k) (omega arith))) in
    rw (first, rest) refl

pub page_bytes : (ps : List Page) (i : ℕ) (d : Page) → IsFine ps → i < length ps
    → bytes_from (mem_of ps) ((get_or ps i d).number * 4096) 4096 ≡ (get_or ps i d).bytes.items
page_bytes ps i d fine l =
    let p : Page = get_or ps i d in
    let full : length p.bytes.items ≡ 4096 = fine.full i d l in
    let all : bytes_from (mem_of ps) (p.number * 4096) (length p.bytes.items) ≡ p.bytes.items =
    bytes_from-list (mem_of ps) (p.number * 4096) p.bytes.items (λ k h.
    let place : (p.number * 4096 + k) / 4096 ≡ p.number = omega arith in
    let inside : (p.number * 4096 + k) % 4096 ≡ k = omega arith in
    get-mem_of ps (p.number * 4096 + k) (recursion_from_All (λ x. length x.bytes.items ≡ 4096) ps fine.full)
    (recursion_from_All (λ x. x.number < 2 ^ 52) ps fine.low)
    ∙ rw (place, inside, page_at-index ps i d fine.sorted l) refl) in
    rw full at all

pub entry_shown : (ps : List Page) (m : AddressSpace) (i : ℕ) (p : Page) → IsFine ps → memory_of ps ≡ m → i < length ps → p ≡ get_or ps i p
    → slice_get (entries m.perm) i ≡ Some (p.number * 4096 / 4096, p.flags)
entry_shown ps m i p fine e l is =
    let number : p.number * 4096 / 4096 ≡ p.number = omega arith in
    rw (← e, entries-perm_of ps fine.sorted, number) (slice_get-entry ps i p l ∙ ap (λ x. Some (page_entry x)) (sym is))

pub bytes_shown : (ps : List Page) (m : AddressSpace) (i : ℕ) (p : Page) (bs : List ℕ) → IsFine ps → memory_of ps ≡ m → i < length ps
    → p ≡ get_or ps i p → bs ≡ p.bytes.items → bs ≡ bytes_from m.mem (p.number * 4096) 4096
bytes_shown ps m i p bs fine e l is same =
    rw (← e) (same ∙ ap (λ x. x.bytes.items) is ∙ sym (page_bytes ps i p fine l)
    ∙ ap (λ x. bytes_from (mem_of ps) (x.number * 4096) 4096) (sym is))
