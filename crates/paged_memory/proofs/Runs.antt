-- A run of bytes within one page.
use Rattle.std.proofs.Common.{◌≡◌, ℕ, zero, suc, ◌+◌, ◌/◌, ◌%◌, ◌^◌, ◌<◌, ◌≤◌, true, false, List, [], ◌∷◌, ◌++◌, length, get_or, take, drop}
use Rattle.std.proofs.Common.{refl, ap, sym, ◌∙◌, arith, Some, None, slice_get, add-one, length-drop}
use Rattle.std.specs.Prelude.{bit_and, IfNone, Option}
use Rattle.std.specs.Borrow.{Bor}
use Rattle.std.proofs.lemmas.Bool.Decides.{nat_tests}
use Rattle.std.proofs.lemmas.List.{take_more, get_or-drop}
use Rattle.std.proofs.lemmas.Option.{slice_get-get_or}
use Rattle.paged_memory.specs.declared.page.Page.{Page}
use Rattle.paged_memory.specs.Memory.{AddressSpace, byte_with, bytes_with, first_without, permits}
use Rattle.paged_memory.specs.Pages.{page_at, memory_of, IsFine}
use Rattle.paged_memory.proofs.Bytes.{byte-memory_of}
use Rattle.paged_memory.proofs.Accesses.{first_without-none, first_without-first}

-- the page that was read at the place that was found
pub page_read : (ps : List Page) (n i : ℕ) (p : Page) → page_at ps n ≡ slice_get ps i → i < length ps → p ≡ get_or ps i p
    → page_at ps n ≡ Some p
page_read ps n i p at l is = at ∙ slice_get-get_or ps i p l ∙ ap Some (sym is)

byte_in_page : (ps : List Page) (need a : ℕ) (p : Page) → IsFine ps → page_at ps (a / 4096) ≡ Some p → bit_and p.flags need ≡ need
    → length p.bytes.items ≡ 4096 → byte_with need (memory_of ps) a ≡ Some (get_or p.bytes.items (a % 4096) 0)
byte_in_page ps need a p fine page may full =
    let test : permits need p.flags ≡ true = grind (arith, nat_tests) in
    rw (byte-memory_of ps need a fine, page, test) (slice_get-get_or p.bytes.items (a % 4096) 0 (rw full (omega arith)))

-- an address and those after it in its page
same_page : (a n : ℕ) → a < 2 ^ 64 → a % 4096 + suc n ≤ 4096 → ((a + n) % 2 ^ 64 / 4096 ≡ a / 4096)
    × ((a + n) % 2 ^ 64 % 4096 ≡ a % 4096 + n)
same_page a n low h = let e : (a + n) % 2 ^ 64 ≡ a + n = omega arith in rw e (omega arith, omega arith)

pub run_read : (ps : List Page) (need a n : ℕ) (p : Page) → IsFine ps → page_at ps (a / 4096) ≡ Some p → bit_and p.flags need ≡ need
    → length p.bytes.items ≡ 4096 → a < 2 ^ 64 → a % 4096 + n ≤ 4096
    → bytes_with need (memory_of ps) a n ≡ Some (take n (drop (a % 4096) p.bytes.items))
unfolding bytes_with
run_read ps need a zero p fine page may full low h = refl
run_read ps need a (suc n) p fine page may full low h =
    let at : ℕ = (a + n) % 2 ^ 64 in
    let place : (at / 4096 ≡ a / 4096) × (at % 4096 ≡ a % 4096 + n) = same_page a n low h in
    let before : bytes_with need (memory_of ps) a n ≡ Some (take n (drop (a % 4096) p.bytes.items)) =
    run_read ps need a n p fine page may full low (omega arith) in
    let byte : byte_with need (memory_of ps) at ≡ Some (get_or p.bytes.items (at % 4096) 0) =
    byte_in_page ps need at p fine (ap (page_at ps) place.0 ∙ page) may full in
    let inside : n < length (drop (a % 4096) p.bytes.items) = rw (length-drop, full) (omega arith) in
    let more : take (suc n) (drop (a % 4096) p.bytes.items) ≡ take n (drop (a % 4096) p.bytes.items)
    ++ get_or (drop (a % 4096) p.bytes.items) n 0 ∷ [] = rw add-one at (take_more (drop (a % 4096) p.bytes.items) n 0 inside) in
    let value : get_or p.bytes.items (at % 4096) 0 ≡ get_or (drop (a % 4096) p.bytes.items) n 0 =
    ap (λ k. get_or p.bytes.items k 0) place.1 ∙ sym (get_or-drop (a % 4096) p.bytes.items n 0) in
    rw (before, byte, value, more) refl

pub page_denied : (ps : List Page) (need a : ℕ) (p : Page) → IsFine ps → page_at ps (a / 4096) ≡ Some p → (bit_and p.flags need ≡ need → ⊥)
    → byte_with need (memory_of ps) a ≡ None
page_denied ps need a p fine page lacks =
    let test : permits need p.flags ≡ false = grind (arith, nat_tests) in
    rw (byte-memory_of ps need a fine, page, test) refl

pub page_gone : (ps : List Page) (need a : ℕ) → IsFine ps → page_at ps (a / 4096) ≡ None → byte_with need (memory_of ps) a ≡ None
page_gone ps need a fine none = rw (byte-memory_of ps need a fine, none) refl

-- ---- a run that may be accessed so, and one that may not

pub run_permitted : (ps : List Page) (need a n i : ℕ) (p : Page) → IsFine ps → page_at ps (a / 4096) ≡ slice_get ps i → i < length ps
    → p ≡ get_or ps i p → bit_and p.flags need ≡ need → a < 2 ^ 64 → a % 4096 + n ≤ 4096
    → first_without need (memory_of ps) a n ≡ None
run_permitted ps need a n i p fine at l is may low h =
    let full : length p.bytes.items ≡ 4096 = rw is (fine.full i p l) in
    first_without-none need (memory_of ps) a n (rw (run_read ps need a n p fine (page_read ps (a / 4096) i p at l is) may full low h) refl)

pub run_denied : (ps : List Page) (need a n i : ℕ) (p : Page) → IsFine ps → page_at ps (a / 4096) ≡ slice_get ps i → i < length ps
    → p ≡ get_or ps i p → (bit_and p.flags need ≡ need → ⊥) → a < 2 ^ 64 → 0 < n
    → first_without need (memory_of ps) a n ≡ Some a
run_denied ps need a n i p fine at l is lacks low some =
    first_without-first need (memory_of ps) a n low (page_denied ps need a p fine (page_read ps (a / 4096) i p at l is) lacks) some

pub run_gone : (ps : List Page) (need a n : ℕ) → IsFine ps → page_at ps (a / 4096) ≡ None → a < 2 ^ 64 → 0 < n
    → first_without need (memory_of ps) a n ≡ Some a
run_gone ps need a n fine none low some = first_without-first need (memory_of ps) a n low (page_gone ps need a fine none) some

-- a run that was sought, where its page cannot be accessed so
pub run_sought : (ps : List Page) (m : AddressSpace) (need a n : ℕ) (o : Option (Bor (List ℕ))) → memory_of ps ≡ m → a < 2 ^ 64 → 0 < n
    → IfNone o (byte_with need (memory_of ps) a ≡ None) → IfNone o (first_without need m a n ≡ Some a)
run_sought ps m need a n None e low some h = first_without-first need m a n low (rw (← e) h) some
run_sought ps m need a n (Some bytes) e low some h = tt
