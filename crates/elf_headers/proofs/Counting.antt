-- Counting the pages of spans in order of address.
use Rattle.std.proofs.Common.{inl, inr, ◌≡◌, ℕ, ◌+◌, ◌-◌, ◌/◌, ◌^◌, ◌<◌, ◌≤◌, max, Bool, true, false, List, length, get_or, refl, sym}
use Rattle.std.proofs.Common.{◌∙◌, arith}
use Rattle.std.specs.Prelude.{◌||◌}
use Rattle.std.specs.List.Sorted.{IsNonDecreasingBy}
use Rattle.std.proofs.lemmas.Bool.Decides.{nat_tests}
use Rattle.std.proofs.lemmas.Bool.{cases_lt, or_left, or_right}
use Rattle.elf_headers.specs.declared.spans.Span.{Span}
use Rattle.elf_headers.specs.Below.{any_below, count_below}
use Rattle.elf_headers.specs.Spans.{touches_page, pages_below, IsLow}
use Rattle.elf_headers.proofs.Below.{any_below-zero, any_below-next, list_any-any_below, count_below-same, count_below-none}
use Rattle.elf_headers.proofs.Below.{count_below-full}

abbrev pub no_span : Span
no_span = record { address = 0; end = 0; header = 0 }

-- one of the first i spans touches the page
pub touched_by : List Span → ℕ → ℕ → Bool
touched_by spans i n = any_below (λ k. touches_page (get_or spans k no_span) n) i

-- the first i spans touch `count` pages, all below `next`, and each from the last span's first page on
pub record IsCounted (spans : List Span) (i next count : ℕ) : Type 0 where
  pub counted : count_below (touched_by spans i) next ≡ count
  pub above : (n : ℕ) → next ≤ n → touched_by spans i n ≡ false
  pub full : (n : ℕ) → 0 < i → (get_or spans (i - 1) no_span).address / 4096 ≤ n → n < next → touched_by spans i n ≡ true
  pub low : next ≤ 2 ^ 35
  pub few : count ≤ next
  pub empty : i ≡ 0 → next ≡ 0

pub counted_none : (spans : List Span) → IsCounted spans 0 0 0
unfolding count_below touched_by
counted_none spans =
    record {
      counted = refl;
      above = λ n h. any_below-zero _;
      full = λ n a b c. absurd (omega arith);
      low = omega arith;
      few = omega arith;
      empty = λ e. refl;
    }

or_false : (a b : Bool) → b ≡ false → (a || b) ≡ a
or_false true b h = refl
or_false false b h = h

abbrev pub first_of : List Span → ℕ → ℕ
first_of spans i = (get_or spans i no_span).address / 4096

abbrev pub past_of : List Span → ℕ → ℕ
past_of spans i = ((get_or spans i no_span).end - 1) / 4096 + 1

-- what one more span changes
touched-next : (spans : List Span) (i n : ℕ)
    → touched_by spans (i + 1) n ≡ (touched_by spans i n || touches_page (get_or spans i no_span) n)
unfolding touched_by
touched-next spans i n = any_below-next _ i

touched-inside : (spans : List Span) (i n : ℕ) → first_of spans i ≤ n → n < past_of spans i → touched_by spans (i + 1) n ≡ true
touched-inside spans i n a b = touched-next spans i n ∙ or_right (touched_by spans i n) _ (grind (arith, nat_tests))

touched-below : (spans : List Span) (i n : ℕ) → n < first_of spans i → touched_by spans (i + 1) n ≡ touched_by spans i n
touched-below spans i n a = touched-next spans i n ∙ or_false (touched_by spans i n) _ (grind (arith, nat_tests))

touched-above : (spans : List Span) (i n : ℕ) → past_of spans i ≤ n → touched_by spans (i + 1) n ≡ touched_by spans i n
touched-above spans i n a = touched-next spans i n ∙ or_false (touched_by spans i n) _ (grind (arith, nat_tests))

touched-still : (spans : List Span) (i n : ℕ) → touched_by spans i n ≡ true → touched_by spans (i + 1) n ≡ true
touched-still spans i n a = touched-next spans i n ∙ or_left (touched_by spans i n) _ a

module _ (spans : List Span) (i next count : ℕ) (sorted : IsNonDecreasingBy (λ s. s.address) spans) (inside : i < length spans)
    (was : IsCounted spans i next count) where
  -- a page below the next one that the new span reaches was touched before
  filled : (n : ℕ) → first_of spans i ≤ n → n < next → touched_by spans i n ≡ true
  filled n a b = elim (cases_lt 0 i) [
    | inl p ↦ let up : (get_or spans (i - 1) no_span).address ≤ (get_or spans i no_span).address =
        sorted (i - 1) i no_span (omega arith) inside in was.full n p (omega arith) b
    | inr z ↦ let none : next ≡ 0 = was.empty (omega arith) in absurd (omega arith)
  ]

  same_below : (n : ℕ) → n < next → touched_by spans (i + 1) n ≡ touched_by spans i n
  same_below n l = elim (cases_lt n (first_of spans i)) [
    | inl b ↦ touched-below spans i n b
    | inr g ↦ let t : touched_by spans i n ≡ true = filled n g l in touched-still spans i n t ∙ sym t
  ]

total : (f : ℕ → Bool) (first past next count : ℕ) → first < past → count_below f next ≡ count
    → ((n : ℕ) → next ≤ n → n < first → f n ≡ false) → ((n : ℕ) → first ≤ n → n < past → f n ≡ true)
    → count_below f (max next past) ≡ count + (past - max first next)
total f first past next count wide old none full = elim (cases_lt next past) [
  | inr g ↦ let e : max next past ≡ next = omega arith in let z : count + (past - max first next) ≡ count = omega arith in rw (e, z) old
  | inl l ↦ let e : max next past ≡ past = omega arith in elim (cases_lt next first) [
    | inr h ↦
        let z : past - max first next ≡ past - next = omega arith in
        let p : next + (past - next) ≡ past = omega arith in
        let all : count_below f (next + (past - next)) ≡ count_below f next + (past - next) =
        count_below-full f next (past - next) (λ n a b. full n (omega arith) (omega arith)) in
        rw (e, z) (rw (p, old) at all)
    | inl h ↦
        let z : past - max first next ≡ past - first = omega arith in
        let p : first + (past - first) ≡ past = omega arith in
        let q : next + (first - next) ≡ first = omega arith in
        let before : count_below f (next + (first - next)) ≡ count_below f next =
        count_below-none f next (first - next) (λ n a b. none n a (omega arith)) in
        let at_first : count_below f first ≡ count = rw (q, old) at before in
        let all : count_below f (first + (past - first)) ≡ count_below f first + (past - first) =
        count_below-full f first (past - first) (λ n a b. full n a (omega arith)) in
        rw (e, z) (rw (p, at_first) at all)
  ]
]

pub counted_more : (spans : List Span) (i next count : ℕ) → IsNonDecreasingBy (λ s. s.address) spans → i < length spans
    → IsLow (get_or spans i no_span) → IsCounted spans i next count
    → IsCounted spans (i + 1) (max next (past_of spans i)) (count + (past_of spans i - max (first_of spans i) next))
counted_more spans i next count sorted inside span was =
    let wide : first_of spans i < past_of spans i = omega (arith, span.some) in
    let low : past_of spans i ≤ 2 ^ 35 = omega (arith, span.some, span.low) in
    let old : count_below (touched_by spans (i + 1)) next ≡ count =
    count_below-same (touched_by spans (i + 1)) (touched_by spans i) next (λ n l. same_below spans i next count sorted inside was n l)
    ∙ was.counted in
    record {
      counted =
          total (touched_by spans (i + 1)) (first_of spans i) (past_of spans i) next count wide old
          (λ n a b. touched-below spans i n b ∙ was.above n a) (λ n a b. touched-inside spans i n a b);
      above = λ n h. touched-above spans i n (omega arith) ∙ was.above n (omega arith);
      full =
          λ n a b c. let e : i + 1 - 1 ≡ i =
          omega arith in let reach : first_of spans i ≤ n = rw e at b in elim (cases_lt n (past_of spans i)) [
            | inl l ↦ touched-inside spans i n reach l
            | inr g ↦ touched-still spans i n (filled spans i next count sorted inside was n reach (omega arith))
          ];
      low = omega (arith, was.low, low);
      few = omega (arith, was.few);
      empty = λ e. absurd (omega arith);
    }

same_pages : (spans : List Span) (n : ℕ) → pages_below spans n ≡ count_below (touched_by spans (length spans)) n
unfolding touched_by
same_pages spans n = count_below-same _ _ n (λ k l. list_any-any_below (λ s. touches_page s k) spans no_span)

counted_to : (spans : List Span) (i next count limit : ℕ) → length spans ≡ i → next ≤ limit → IsCounted spans i next count
    → count ≡ pages_below spans limit
counted_to spans i next count limit e low was =
    let p : next + (limit - next) ≡ limit = omega arith in
    let rest : count_below (touched_by spans i) (next + (limit - next)) ≡ count_below (touched_by spans i) next =
    count_below-none (touched_by spans i) next (limit - next) (λ n a b. was.above n a) in
    let all : count_below (touched_by spans i) limit ≡ count = rw p at rest ∙ was.counted in
    sym (same_pages spans limit ∙ rw e all)

pub counted_all : (spans : List Span) (i next count : ℕ) → length spans ≡ i → IsCounted spans i next count
    → count ≡ pages_below spans (2 ^ 35)
counted_all spans i next count e was = counted_to spans i next count (2 ^ 35) e was.low was
