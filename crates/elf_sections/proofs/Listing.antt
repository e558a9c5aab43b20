-- Code words listed from ranges in order.
use Rattle.std.proofs.Common.{inl, inr, ◌≡◌, ℕ, zero, suc, ◌+◌, ◌*◌, ◌<◌, ◌≤◌, max, true, false, List, [], ◌∷◌, ◌++◌, length, get_or, Some}
use Rattle.std.proofs.Common.{None, refl, sym, ◌∙◌, arith}
use Rattle.std.specs.List.Sorted.{IsNonDecreasingBy, IsPermutation}
use Rattle.std.proofs.lemmas.Bool.{cases_lt, or_left, or_right, or_from}
use Rattle.std.proofs.lemmas.Bool.Decides.{nat_tests}
use Rattle.std.proofs.lemmas.List.{get_or_default}
use Rattle.std.proofs.lemmas.List.Sorted.{list_any-IsPermutation}
use Rattle.elf_headers.specs.Below.{answers, answers_below}
use Rattle.elf_sections.specs.declared.word_ranges.WordRange.{WordRange}
use Rattle.elf_sections.specs.Code.{is_code_word, code_word, loaded_word}
use Rattle.elf_sections.specs.WordRanges.{has_number, is_in_ranges}
use Rattle.elf_headers.proofs.Below.{answers_below-next}
use Rattle.elf_sections.proofs.AnswersBelow.{answers_below-gap}

-- ---- what ranges have

pub in_ranges-permutation : (xs ys : List WordRange) (n : ℕ) → IsPermutation xs ys → is_in_ranges xs n ≡ is_in_ranges ys n
unfolding is_in_ranges
in_ranges-permutation xs ys n p = list_any-IsPermutation (λ s. has_number s n) xs ys p

in_ranges-at : (ranges : List WordRange) (k n : ℕ) (d : WordRange) → k < length ranges → has_number (get_or ranges k d) n ≡ true
    → is_in_ranges ranges n ≡ true
unfolding is_in_ranges
in_ranges-at [] k n d l h = absurd (omega arith)
in_ranges-at (s ∷ ranges) zero n d l h = or_left (has_number s n) _ h
in_ranges-at (s ∷ ranges) (suc k) n d l h = or_right (has_number s n) _ (in_ranges-at ranges k n d (omega arith) h)

in_ranges-not : (ranges : List WordRange) (n : ℕ) → ((k : ℕ) (d : WordRange) → k < length ranges → has_number (get_or ranges k d) n ≡ false)
    → is_in_ranges ranges n ≡ false
unfolding is_in_ranges
in_ranges-not [] n h = refl
in_ranges-not (s ∷ ranges) n h =
    or_from (has_number s n) _ (h 0 s (omega arith)) (in_ranges-not ranges n (λ k d l. h (suc k) d (omega arith)))

has_number-from : (s : WordRange) (n : ℕ) → s.start ≤ n → n < s.end → has_number s n ≡ true
has_number-from s n l h = grind (arith, nat_tests)

has_number-past : (s : WordRange) (n : ℕ) → s.end ≤ n → has_number s n ≡ false
has_number-past s n l = grind (arith, nat_tests)

has_number-before : (s : WordRange) (n : ℕ) → n < s.start → has_number s n ≡ false
has_number-before s n l = grind (arith, nat_tests)

-- the first k ranges end at a number or before it
abbrev pub ArePassed : List WordRange → ℕ → ℕ → Type 0
ArePassed ranges k next = (j : ℕ) (d : WordRange) → j < k → (get_or ranges j d).end ≤ next

not_between : (ranges : List WordRange) (k next n : ℕ) (d : WordRange) → IsNonDecreasingBy (λ s. s.start) ranges → k < length ranges
    → ArePassed ranges k next → next ≤ n → n < (get_or ranges k d).start → is_in_ranges ranges n ≡ false
not_between ranges k next n d order inside passed from to = in_ranges-not ranges n (λ j e l. elim (cases_lt j k) [
  | inl b ↦ let low : (get_or ranges j e).end ≤ next = passed j e b in has_number-past (get_or ranges j e) n (omega arith)
  | inr g ↦
      let up : (get_or ranges k e).start ≤ (get_or ranges j e).start = order k j e g l in
      let same : get_or ranges k e ≡ get_or ranges k d = get_or_default ranges k e d inside in
      let up2 : (get_or ranges k d).start ≤ (get_or ranges j e).start = rw same at up in
      has_number-before (get_or ranges j e) n (omega arith)
])

not_behind : (ranges : List WordRange) (k next n : ℕ) → length ranges ≤ k → ArePassed ranges k next → next ≤ n
    → is_in_ranges ranges n ≡ false
not_behind ranges k next n all passed from =
    in_ranges-not ranges n (λ j e l. let low : (get_or ranges j e).end ≤ next = passed j e (omega arith) in
    has_number-past (get_or ranges j e) n (omega arith))

-- ---- what the words are

pub code_word-true : (file : List ℕ) (n : ℕ) → is_code_word file (4 * n) ≡ true → code_word file n ≡ Some (4 * n, loaded_word file (4 * n))
unfolding code_word
code_word-true file n h = rw h refl

code_word-false : (file : List ℕ) (n : ℕ) → is_code_word file (4 * n) ≡ false → code_word file n ≡ None
unfolding code_word
code_word-false file n h = rw h refl

-- the words of the ranges are the code words
abbrev pub Spans : List ℕ → List WordRange → Type 0
Spans file ranges = (n : ℕ) → is_in_ranges ranges n ≡ is_code_word file (4 * n)

-- one more word
pub listed_more : (file : List ℕ) (old new : List (ℕ × ℕ)) (n word : ℕ) → old ≡ answers_below (code_word file) n → new ≡ old
    ++ (4 * n, word) ∷ [] → is_code_word file (4 * n) ≡ true → word ≡ loaded_word file (4 * n)
    → new ≡ answers_below (code_word file) (n + 1)
listed_more file old new n word before is code e =
    is ∙ (λ i. before i ++ (4 * n, e i) ∷ []) ∙ (λ i. answers_below (code_word file) n ++ answers (sym (code_word-true file n code) i))
    ∙ sym (answers_below-next (code_word file) n)

pub range_code : (file : List ℕ) (ranges : List WordRange) (k n : ℕ) (d : WordRange) → Spans file ranges → k < length ranges
    → (get_or ranges k d).start ≤ n → n < (get_or ranges k d).end → is_code_word file (4 * n) ≡ true
range_code file ranges k n d words inside from to =
    sym (words n) ∙ in_ranges-at ranges k n d inside (has_number-from (get_or ranges k d) n from to)

-- the gap up to the next range has no code
pub listed_to : (file : List ℕ) (ranges : List WordRange) (code : List (ℕ × ℕ)) (k next : ℕ) (d : WordRange) → Spans file ranges
    → IsNonDecreasingBy (λ s. s.start) ranges → k < length ranges → ArePassed ranges k next → code ≡ answers_below (code_word file) next
    → code ≡ answers_below (code_word file) (max (get_or ranges k d).start next)
listed_to file ranges code k next d words order inside passed is =
    is ∙ sym (answers_below-gap (code_word file) next (max (get_or ranges k d).start next) (omega arith) (λ n from to.
    code_word-false file n (sym (words n) ∙ not_between ranges k next n d order inside passed from (omega arith))))

-- and so has what lies behind the last
pub listed_all : (file : List ℕ) (ranges : List WordRange) (code : List (ℕ × ℕ)) (k next limit : ℕ) → Spans file ranges → length ranges ≤ k
    → ArePassed ranges k next → next ≤ limit → code ≡ answers_below (code_word file) next → code ≡ answers_below (code_word file) limit
listed_all file ranges code k next limit words all passed low is =
    is ∙ sym (answers_below-gap (code_word file) next limit low
    (λ n from to. code_word-false file n (sym (words n) ∙ not_behind ranges k next n all passed from)))

pub passed_one : (ranges : List WordRange) (k next : ℕ) (d : WordRange) → k < length ranges → ArePassed ranges k next
    → ArePassed ranges (k + 1) (max next (get_or ranges k d).end)
passed_one ranges k next d inside passed j e l = elim (cases_lt j k) [
  | inl b ↦ let low : (get_or ranges j e).end ≤ next = passed j e b in omega arith
  | inr g ↦
      let z : j ≡ k = omega arith in
      let same : get_or ranges k e ≡ get_or ranges k d = get_or_default ranges k e d inside in
      rw (z, same) (omega arith)
]

-- the default that a read of a range has
abbrev pub no_range : WordRange
no_range = record { start = 0; end = 0 }
