-- The first line of a text.
use Rattle.std.proofs.Common.{◌≡◌, ℕ, suc, ◌+◌, ◌<◌, ◌≤◌, true, false, not, cond, ◌==◌, List, [], ◌∷◌, length, take, drop, Option}
use Rattle.std.proofs.Common.{Some, None, nat_lt, refl, sym, ap, ◌∙◌, arith}
use Rattle.std.proofs.lemmas.Bool.Decides.{nat_tests}
use Rattle.std.proofs.lemmas.Option.{same_Some}
use Rattle.std.specs.List.{position_or_len}
use Rattle.asm_core.specs.Source.{lines_of, onto_first}

line_cons : (c : ℕ) (cs : List ℕ) → lines_of (c ∷ cs) ≡ cond (c == 10) ([] ∷ lines_of cs) (onto_first c (lines_of cs))
unfolding lines_of
line_cons c cs = refl

-- an empty text has no line
pub no_line : (text : List ℕ) → length text ≡ 0 → lines_of text ≡ []
unfolding lines_of
no_line [] e = refl
no_line (c ∷ cs) e = absurd (omega arith)

is_suc : (n : ℕ) → suc n ≡ 1 + n
is_suc n = omega arith

-- the first line ends before the first line feed, or with the text
pub first_line : (text : List ℕ) → 0 < length text → lines_of text ≡ take (position_or_len (λ c. c == 10) text) text
    ∷ lines_of (drop (suc (position_or_len (λ c. c == 10) text)) text)
first_line [] l = absurd (omega arith)
first_line (c ∷ []) l =
    line_cons c [] ∙ (elim (c == 10) as (λ b. cond b ([] ∷ lines_of []) (onto_first c (lines_of []))
    ≡ take (cond (not b) (1 + 0) 0) (c ∷ []) ∷ lines_of (drop (suc (cond (not b) (1 + 0) 0)) (c ∷ []))) [
      | true ↦ refl
      | false ↦ ap (onto_first c) (no_line [] refl) ∙ ap (λ (ls : List (List ℕ)). (c ∷ []) ∷ ls) (sym (no_line [] refl))
    ])
first_line (c ∷ d ∷ cs) l = line_cons c (d ∷ cs) ∙ (
    let k = position_or_len (λ c. c == 10) (d ∷ cs) in
    elim (c == 10) as (λ b. cond b ([] ∷ lines_of (d ∷ cs)) (onto_first c (lines_of (d ∷ cs))) ≡ take (cond (not b) (1 + k) 0) (c ∷ d ∷ cs)
    ∷ lines_of (drop (suc (cond (not b) (1 + k) 0)) (c ∷ d ∷ cs))) [
      | true ↦ refl
      | false ↦ ap (onto_first c) (first_line (d ∷ cs) (omega arith))
          ∙ ap (λ n. take n (c ∷ d ∷ cs) ∷ lines_of (drop (suc n) (c ∷ d ∷ cs))) (is_suc k)
    ])

one_more : (n m : ℕ) → n ≤ m → 1 + n ≤ suc m
one_more n m l = omega arith

-- a place that was found is the length of what stands before it
pub found_length : (k n a : ℕ) → ◌≡◌ {A = Option ℕ} (Some a) (cond (nat_lt k n) (Some k) None) → a ≡ k
found_length k n a e = elim (nat_lt k n) as (λ b. ◌≡◌ {A = Option ℕ} (Some a) (cond b (Some k) None) → a ≡ k) [
  | true ↦ λ h. same_Some a k h
  | false ↦ λ h. cc
] e

-- where none was found, all stands before
pub whole_length : (k n : ℕ) → k ≤ n → ◌≡◌ {A = Option ℕ} None (cond (nat_lt k n) (Some k) None) → n ≡ k
whole_length k n l e = elim (nat_lt k n) as (λ b. nat_lt k n ≡ b → ◌≡◌ {A = Option ℕ} None (cond b (Some k) None) → n ≡ k) [
  | true ↦ λ is h. cc
  | false ↦ λ is h. let m : n ≤ k = grind (arith, nat_tests) in omega arith
] refl e
