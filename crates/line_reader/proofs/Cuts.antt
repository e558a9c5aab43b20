-- The first word of a text, and its first line.
use Rattle.std.proofs.Common.{◌≡◌, ℕ, suc, ◌+◌, ◌-◌, ◌<◌, ◌≤◌, Bool, true, false, not, cond, ◌==◌, List, [], ◌∷◌, length, take, drop, Option}
use Rattle.std.proofs.Common.{Some, None, nat_lt, refl, sym, ap, ◌∙◌, arith, length-drop}
use Rattle.std.proofs.lemmas.Bool.Decides.{nat_tests}
use Rattle.std.proofs.lemmas.List.{take_all}
use Rattle.std.proofs.lemmas.Option.{same_Some}
use Rattle.std.specs.List.{prefix_len, position}
use Rattle.std.specs.Prelude.{option_map}
use Rattle.line_reader.specs.Fields.{ended}
use Rattle.line_reader.specs.Lines.{lines_of, words_in, onto_first, with_first}

-- ---- words

word_cons : (b : ℕ) (bs : List ℕ) → words_in (b ∷ bs) ≡ cond (b == 32) ([] ∷ words_in bs) (onto_first b (words_in bs))
unfolding words_in
word_cons b bs = refl

no_words : words_in [] ≡ [] ∷ []
unfolding words_in
no_words = refl

-- the place before which no byte passes
abbrev place : (ℕ → Bool) → List ℕ → ℕ
place test text = prefix_len (λ b. not (test b)) text

is_suc : (n : ℕ) → suc n ≡ 1 + n
is_suc n = omega arith

more : (k n : ℕ) → 1 + k < suc n → k < n
more k n l = omega arith

less : (k n : ℕ) → suc n ≤ 1 + k → n ≤ k
less k n l = omega arith

cut_word : (text : List ℕ) → place (λ b. b == 32) text < length text → words_in text
    ≡ take (place (λ b. b == 32) text) text ∷ words_in (drop (suc (place (λ b. b == 32) text)) text)
cut_word [] l = absurd (omega arith)
cut_word (b ∷ bs) l = word_cons b bs ∙ (
    let k = place (λ b. b == 32) bs in
    elim (b == 32) as (λ t. cond (not t) (1 + k) 0 < suc (length bs) → cond t ([] ∷ words_in bs) (onto_first b (words_in bs))
    ≡ take (cond (not t) (1 + k) 0) (b ∷ bs) ∷ words_in (drop (suc (cond (not t) (1 + k) 0)) (b ∷ bs))) [
      | true ↦ λ l. refl
      | false ↦ λ l. ap (onto_first b) (cut_word bs (more k (length bs) l))
          ∙ ap (λ n. take n (b ∷ bs) ∷ words_in (drop (suc n) (b ∷ bs))) (is_suc k)
    ] l)

one_word : (text : List ℕ) → length text ≤ place (λ b. b == 32) text → words_in text ≡ text ∷ []
one_word [] l = no_words
one_word (b ∷ bs) l = word_cons b bs ∙ (
    let k = place (λ b. b == 32) bs in
    elim (b == 32) as (λ t. suc (length bs) ≤ cond (not t) (1 + k) 0 → cond t ([] ∷ words_in bs) (onto_first b (words_in bs))
    ≡ (b ∷ bs) ∷ []) [
      | true ↦ λ l. absurd (omega arith)
      | false ↦ λ l. ap (onto_first b) (one_word bs (less k (length bs) l))
    ] l)

-- a place that was found
found_at : (k n a : ℕ) → ◌≡◌ {A = Option ℕ} (Some a) (cond (nat_lt k n) (Some k) None) → (a ≡ k) × (k < n)
found_at k n a e = elim (nat_lt k n) as (λ b. nat_lt k n ≡ b → ◌≡◌ {A = Option ℕ} (Some a) (cond b (Some k) None) → (a ≡ k) × (k < n)) [
  | true ↦ λ is h. (same_Some a k h, grind (arith, nat_tests))
  | false ↦ λ is h. cc
] refl e

-- none was found
not_found : (k n : ℕ) → ◌≡◌ {A = Option ℕ} None (cond (nat_lt k n) (Some k) None) → n ≤ k
not_found k n e = elim (nat_lt k n) as (λ b. nat_lt k n ≡ b → ◌≡◌ {A = Option ℕ} None (cond b (Some k) None) → n ≤ k) [
  | true ↦ λ is h. cc
  | false ↦ λ is h. grind (arith, nat_tests)
] refl e

-- what follows a place, as the code takes it
rest_of : (n : ℕ) (text : List ℕ) → take (length text - n) (drop n text) ≡ drop n text
rest_of n text = take_all (length text - n) (drop n text) (omega (arith, length-drop n text))

pub word_found : (text : List ℕ) (at : ℕ) → Some at ≡ position (λ b. b == 32) text
    → words_in text ≡ take at text ∷ words_in (take (length text - (at + 1)) (drop (at + 1) text))
word_found text at e =
    let it = found_at (place (λ b. b == 32) text) (length text) at e in
    let next : suc (place (λ b. b == 32) text) ≡ at + 1 = omega (arith, it.0) in
    cut_word text it.1 ∙ ap (λ n. take n text ∷ words_in (drop (suc (place (λ b. b == 32) text)) text)) (sym it.0)
    ∙ ap (λ n. take at text ∷ words_in (drop n text)) next
    ∙ ap (λ ts. take at text ∷ words_in ts) (sym (rest_of (at + 1) text))

pub word_alone : (text : List ℕ) → None ≡ position (λ b. b == 32) text → words_in text ≡ text ∷ []
word_alone text e = one_word text (not_found (place (λ b. b == 32) text) (length text) e)

-- a text has a first word
pub has_word : {A : Type 0} (a : A) (text : List ℕ) → option_map (λ said. said.0) (ended a (words_in text)) ≡ None
has_word a [] = ap (λ ws. option_map (λ said. said.0) (ended a ws)) no_words
has_word a (b ∷ bs) = ap (λ ws. option_map (λ said. said.0) (ended a ws)) (word_cons b bs) ∙ (
    elim (b == 32) as (λ t. option_map (λ said. said.0) (ended a (cond t ([] ∷ words_in bs) (onto_first b (words_in bs)))) ≡ None) [
      | true ↦ refl
      | false ↦ onto_some a b (words_in bs)
    ])
  where
    onto_some : {A : Type 0} (a : A) (b : ℕ) (ws : List (List ℕ)) → option_map (λ said. said.0) (ended a (onto_first b ws)) ≡ None
    onto_some a b [] = refl
    onto_some a b (w ∷ ws) = refl

-- ---- lines

line_cons : (b : ℕ) (bs : List ℕ) → lines_of (b ∷ bs) ≡ cond (b == 10) ((b ∷ []) ∷ lines_of bs) (onto_first b (lines_of bs))
unfolding lines_of
line_cons b bs = refl

pub no_lines : lines_of [] ≡ []
unfolding lines_of
no_lines = refl

cut_line : (text : List ℕ) → place (λ b. b == 10) text < length text → lines_of text
    ≡ take (suc (place (λ b. b == 10) text)) text ∷ lines_of (drop (suc (place (λ b. b == 10) text)) text)
cut_line [] l = absurd (omega arith)
cut_line (b ∷ bs) l = line_cons b bs ∙ (
    let k = place (λ b. b == 10) bs in
    elim (b == 10) as (λ t. cond (not t) (1 + k) 0 < suc (length bs) → cond t ((b ∷ []) ∷ lines_of bs) (onto_first b (lines_of bs))
    ≡ take (suc (cond (not t) (1 + k) 0)) (b ∷ bs) ∷ lines_of (drop (suc (cond (not t) (1 + k) 0)) (b ∷ bs))) [
      | true ↦ λ l. refl
      | false ↦ λ l. ap (onto_first b) (cut_line bs (more k (length bs) l))
          ∙ ap (λ n. take (suc n) (b ∷ bs) ∷ lines_of (drop (suc n) (b ∷ bs))) (is_suc k)
    ] l)

one_line : (text : List ℕ) → length text ≤ place (λ b. b == 10) text → lines_of text ≡ with_first text []
one_line [] l = no_lines
one_line (b ∷ bs) l = line_cons b bs ∙ (
    let k = place (λ b. b == 10) bs in
    elim (b == 10) as (λ t. suc (length bs) ≤ cond (not t) (1 + k) 0 → cond t ((b ∷ []) ∷ lines_of bs) (onto_first b (lines_of bs))
    ≡ (b ∷ bs) ∷ []) [
      | true ↦ λ l. absurd (omega arith)
      | false ↦ λ l. ap (onto_first b) (one_line bs (less k (length bs) l)) ∙ put_first b bs
    ] l)
  where
    put_first : (b : ℕ) (bs : List ℕ) → onto_first b (with_first bs []) ≡ (b ∷ bs) ∷ []
    put_first b [] = refl
    put_first b (c ∷ cs) = refl

first_is : (k : ℕ) (text : List ℕ) (lines : List (List ℕ)) → k < length text
    → take (suc k) text ∷ lines ≡ with_first (take (suc k) text) lines
first_is k [] lines l = absurd (omega arith)
first_is k (b ∷ bs) lines l = refl

pub line_found : (text : List ℕ) (at : ℕ) → Some at ≡ position (λ b. b == 10) text
    → lines_of text ≡ with_first (take (at + 1) text) (lines_of (drop (at + 1) text))
line_found text at e =
    let it = found_at (place (λ b. b == 10) text) (length text) at e in
    let next : suc (place (λ b. b == 10) text) ≡ at + 1 = omega (arith, it.0) in
    cut_line text it.1 ∙ first_is (place (λ b. b == 10) text) text _ it.1
    ∙ ap (λ n. with_first (take n text) (lines_of (drop n text))) next

pub line_alone : (text : List ℕ) → None ≡ position (λ b. b == 10) text → lines_of text ≡ with_first text (lines_of [])
line_alone text e = one_line text (not_found (place (λ b. b == 10) text) (length text) e) ∙ ap (with_first text) (sym no_lines)
