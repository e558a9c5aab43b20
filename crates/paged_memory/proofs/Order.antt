-- The order of pages by their numbers.
use Rattle.std.proofs.Common.{◌⊎◌, inl, inr, ◌≡◌, ◌≢◌, ℕ, zero, suc, ◌+◌, ◌<◌, ◌≤◌, true, false, List, [], ◌∷◌, length, get_or, refl}
use Rattle.std.proofs.Common.{ap, sym, ◌∙◌, arith, Some, None, slice_get, ne_of_lt}
use Rattle.std.specs.Prelude.{◌==◌, map}
use Rattle.std.proofs.lemmas.Bool.Decides.{nat_tests}
use Rattle.std.proofs.lemmas.List.{get_or_default, nil_from_length}
use Rattle.std.proofs.lemmas.Option.{slice_get-get_or}
use Rattle.std.specs.FinMap.{entries, entries-insert, len, len-entries, len-empty, empty}
use Rattle.std.specs.FinMap.Entries.{by_order, below_all, put, is_sorted}
use Rattle.std.specs.Cmp.{nat_cmp_total}
use Rattle.std.specs.Ordering.{nat_cmp, is_lt}
use Rattle.std.specs.declared.cmp.Ordering.{Ordering}
use Rattle.std.specs.declared.cmp.Ordering.TheVariants.{Less, Equal, Greater}
use Rattle.plain_lemmas.proofs.Tests.{is_lt-true, and_second, and_first}
use Rattle.plain_lemmas.proofs.Numbers.{cases_lt_eq_gt}
use Rattle.paged_memory.specs.declared.page.Page.{Page}
use Rattle.paged_memory.specs.Memory.{AddressSpace}
use Rattle.paged_memory.specs.Pages.{page_entry, page_at, perm_of, memory_of, IsFine}

put_less : (k v : ℕ) (e : ℕ × ℕ) (es : List (ℕ × ℕ)) (o : Ordering) → is_lt o ≡ true
    → by_order o ((k, v) ∷ e ∷ es) ((e.0, v) ∷ es) (e ∷ put nat_cmp k v es) ≡ (k, v) ∷ e ∷ es
put_less k v e es Less h = refl
put_less k v e es Equal h = cc
put_less k v e es Greater h = cc

less_apart : (k n : ℕ) → is_lt (nat_cmp k n) ≡ true → (k == n) ≡ false
less_apart k n h = grind (arith, nat_tests)

put-first : (k v : ℕ) (es : List (ℕ × ℕ)) → below_all nat_cmp k es ≡ true → put nat_cmp k v es ≡ (k, v) ∷ es
put-first k v [] h = refl
put-first k v (e ∷ es) h = put_less k v e es (nat_cmp k e.0) (and_first _ _ h)

pub entries-perm_of : (ps : List Page) → is_sorted nat_cmp (map page_entry ps) ≡ true → entries (perm_of ps) ≡ map page_entry ps
unfolding perm_of
entries-perm_of [] h = nil_from_length (entries empty) (sym (len-entries empty) ∙ len-empty nat_cmp ℕ)
entries-perm_of (p ∷ ps) h =
    entries-insert nat_cmp_total (perm_of ps) p.number p.flags ∙ ap (put nat_cmp p.number p.flags) (entries-perm_of ps (and_second _ _ h))
    ∙ put-first p.number p.flags (map page_entry ps) (and_first _ _ h)

-- a page is found by its number
pub later_apart : (k : ℕ) (ps : List Page) (i : ℕ) (d : Page) → below_all nat_cmp k (map page_entry ps) ≡ true → i < length ps
    → (k == (get_or ps i d).number) ≡ false
later_apart k [] i d h l = absurd (omega arith)
later_apart k (p ∷ ps) zero d h l = less_apart k p.number (and_first _ _ h)
later_apart k (p ∷ ps) (suc i) d h l = later_apart k ps i d (and_second _ _ h) (omega arith)

pub page_at-index : (ps : List Page) (i : ℕ) (d : Page) → is_sorted nat_cmp (map page_entry ps) ≡ true → i < length ps
    → page_at ps (get_or ps i d).number ≡ Some (get_or ps i d)
page_at-index [] i d h l = absurd (omega arith)
page_at-index (p ∷ ps) zero d h l = let e : (p.number == p.number) ≡ true = grind (arith, nat_tests) in rw e refl
page_at-index (p ∷ ps) (suc i) d h l =
    rw (later_apart p.number ps i d (and_first _ _ h) (omega arith)) (page_at-index ps i d (and_second _ _ h) (omega arith))

pub slice_get-entry : (ps : List Page) (i : ℕ) (d : Page) → i < length ps
    → slice_get (map page_entry ps) i ≡ Some (page_entry (get_or ps i d))
slice_get-entry [] i d h = absurd (omega arith)
slice_get-entry (p ∷ ps) zero d h = refl
slice_get-entry (p ∷ ps) (suc i) d h = slice_get-entry ps i d (omega arith)

length-entries : (ps : List Page) → length (map page_entry ps) ≡ length ps
length-entries [] = refl
length-entries (p ∷ ps) = ap suc (length-entries ps)

pub len-perm_of : (ps : List Page) (m : AddressSpace) → IsFine ps → memory_of ps ≡ m → len m.perm ≡ length ps
len-perm_of ps m fine e = rw (← e) (len-entries (perm_of ps) ∙ ap length (entries-perm_of ps fine.sorted) ∙ length-entries ps)

-- pages of the same flags are as many
pub same_count : (ps qs : List Page) → IsFine ps → IsFine qs → perm_of qs ≡ perm_of ps → length qs ≡ length ps
same_count ps qs fine fine' e = sym (len-perm_of qs (memory_of qs) fine' refl) ∙ ap len e ∙ len-perm_of ps (memory_of ps) fine refl

-- the numbers rise
later_above : (k : ℕ) (ps : List Page) (i : ℕ) (d : Page) → below_all nat_cmp k (map page_entry ps) ≡ true → i < length ps
    → k < (get_or ps i d).number
later_above k [] i d h l = absurd (omega arith)
later_above k (p ∷ ps) zero d h l = is_lt-true k p.number (and_first _ _ h)
later_above k (p ∷ ps) (suc i) d h l = later_above k ps i d (and_second _ _ h) (omega arith)

pub numbers_rise : (ps : List Page) (i j : ℕ) (d e : Page) → is_sorted nat_cmp (map page_entry ps) ≡ true → i < j → j < length ps
    → (get_or ps i d).number < (get_or ps j e).number
numbers_rise [] i j d e h l m = absurd (omega arith)
numbers_rise (p ∷ ps) zero zero d e h l m = absurd (omega arith)
numbers_rise (p ∷ ps) zero (suc j) d e h l m = later_above p.number ps j e (and_first _ _ h) (omega arith)
numbers_rise (p ∷ ps) (suc i) zero d e h l m = absurd (omega arith)
numbers_rise (p ∷ ps) (suc i) (suc j) d e h l m = numbers_rise ps i j d e (and_second _ _ h) (omega arith) (omega arith)

same_or_below : (k m : ℕ) → k < m + 1 → (k ≡ m) ⊎ (k < m)
same_or_below k m h = grind arith

same_or_above : (k m : ℕ) → m ≤ k → (k ≡ m) ⊎ (m < k)
same_or_above k m h = grind arith

-- up to a page that lies below a number, all do
pub below_upto : (ps : List Page) (m n : ℕ) (p : Page) → IsFine ps → m < length ps → (get_or ps m p).number < n → (k : ℕ) (d : Page)
    → k < m + 1 → (get_or ps k d).number < n
below_upto ps m n p fine l at k d b =
    elim (same_or_below k m b) [
      | inl e ↦ rw (e, get_or_default ps m d p l) at
      | inr c ↦ let rise : (get_or ps k d).number < (get_or ps m p).number = numbers_rise ps k m d p fine.sorted c l in omega arith
    ]

-- from a page on that does not lie below a number, none does
pub none_below_from : (ps : List Page) (m n : ℕ) (p : Page) → IsFine ps → m < length ps → n ≤ (get_or ps m p).number → (k : ℕ) (d : Page)
    → m ≤ k → k < length ps → n ≤ (get_or ps k d).number
none_below_from ps m n p fine l at k d b c =
    elim (same_or_above k m b) [
      | inl e ↦ rw (e, get_or_default ps m d p l) at
      | inr a ↦ let rise : (get_or ps m p).number < (get_or ps k d).number = numbers_rise ps m k p d fine.sorted a c in omega arith
    ]

-- no page has the number
pub page_at-none : (ps : List Page) (n : ℕ) → ((k : ℕ) (d : Page) → k < length ps → (get_or ps k d).number ≢ n) → page_at ps n ≡ None
page_at-none [] n h = refl
page_at-none (p ∷ ps) n h =
    let first : p.number ≢ n = h 0 p (omega arith) in
    let apart : (p.number == n) ≡ false = grind (arith, nat_tests) in
    rw apart (page_at-none ps n (λ k d l. h (suc k) d (omega arith)))

number_above_apart : (m n : ℕ) → n < m → m ≢ n
number_above_apart m n l = grind arith

-- the page that stands there is the one of its number
pub found_at : (ps : List Page) (i n : ℕ) (p : Page) → IsFine ps → i < length ps → (get_or ps i p).number ≡ n
    → page_at ps n ≡ slice_get ps i
found_at ps i n p fine l number =
    ap (page_at ps) (sym number) ∙ page_at-index ps i p fine.sorted l ∙ sym (slice_get-get_or ps i p l)

-- no page has a number that parts those below it from the others, where the first of these has another
pub not_found : (ps : List Page) (i n : ℕ) → IsFine ps → ((k : ℕ) (d : Page) → k < i → (get_or ps k d).number < n)
    → ((k : ℕ) (d : Page) → i ≤ k → k < length ps → n ≤ (get_or ps k d).number)
    → ((d : Page) → i < length ps → (get_or ps i d).number ≢ n) → page_at ps n ≡ None
not_found ps i n fine below rest here = page_at-none ps n (λ k d l.
    elim (cases_lt_eq_gt k i) [
      | inl b ↦ let lower : (get_or ps k d).number < n = below k d b in ne_of_lt lower
      | inr r ↦ elim r [
        | inl e ↦ rw e (here d (rw (← e) l))
        | inr a ↦
            let within : i < length ps = omega arith in
            let apart : (get_or ps i d).number ≢ n = here d within in
            let first : n ≤ (get_or ps i d).number = rest i d (omega arith) within in
            let rise : (get_or ps i d).number < (get_or ps k d).number = numbers_rise ps i k d d fine.sorted a l in
            number_above_apart _ n (omega arith)
      ]
    ])

-- the number of the page that was read
pub get_or_number : (ps : List Page) (i n : ℕ) (p d : Page) → i < length ps → (get_or ps i d).number ≡ n → (get_or ps i p).number ≡ n
get_or_number ps i n p d l e = ap (λ x. x.number) (get_or_default ps i p d l) ∙ e
