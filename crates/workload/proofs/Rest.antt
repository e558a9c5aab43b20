-- The lines that the numbers choose, from one of them on.
use Rattle.std.proofs.Common.{◌≡◌, ℕ, suc, ◌+◌, ◌-◌, ◌<◌, ◌≤◌, List, [], ◌++◌, map, refl, sym, ap, ◌∙◌, arith}
use Rattle.std.specs.List.{flat_map, range_with_len}
use Rattle.std.proofs.lemmas.Grind.{flat_map-append}
use Rattle.workload.specs.Source.{next_number, number_at, chosen_line, chosen_lines, first_lines, last_lines, ended, source_lines, source_of}

abbrev lines_from : ℕ → ℕ → ℕ → List ℕ
lines_from number first count = flat_map ended (map (λ i. chosen_line (number_at number i)) (range_with_len first count))

-- the text of those after the first i
unfoldable pub rest_of : ℕ → ℕ → List ℕ
rest_of number i = lines_from number (i + 1) (number - i)

-- at first all are left
pub rest-all : (number : ℕ) → rest_of number 0 ≡ flat_map ended (chosen_lines number)
unfolding rest_of chosen_lines
rest-all number = let e : number - 0 ≡ number = omega arith in ap (lines_from number 1) e

next_is : (number i : ℕ) → number_at number (i + 1) ≡ next_number (number_at number i)
unfolding number_at
next_is number i = let e : i + 1 ≡ suc i = omega arith in ap (number_at number) e

-- the number after i of them
pub number-next : (number i current next : ℕ) → current ≡ number_at number i → next ≡ next_number current → next ≡ number_at number (i + 1)
number-next number i current next e f = f ∙ ap next_number e ∙ sym (next_is number i)

-- the next line is that of the next number
pub rest-more : (number i next : ℕ) → i < number → next ≡ number_at number (i + 1)
    → rest_of number i ≡ ended (chosen_line next) ++ rest_of number (i + 1)
unfolding rest_of
rest-more number i next l e =
    let left : number - i ≡ suc (number - (i + 1)) = omega arith in
    ap (lines_from number (i + 1)) left
    ∙ ap (λ s. ended (chosen_line s) ++ lines_from number (i + 1 + 1) (number - (i + 1))) (sym e)

-- at last none is left
pub rest-end : (number i : ℕ) → number ≤ i → rest_of number i ≡ []
unfolding rest_of
rest-end number i l = let e : number - i ≡ 0 = omega arith in ap (lines_from number (i + 1)) e

-- the sequence begins with the source's number
pub rest-start : (number : ℕ) → number ≡ number_at number 0
unfolding number_at
rest-start number = refl

-- the text of a source in three parts
pub source-parts : (number : ℕ)
    → flat_map ended first_lines ++ (flat_map ended (chosen_lines number) ++ flat_map ended last_lines) ≡ source_of number
unfolding source_of source_lines
source-parts number =
    ap (λ text. flat_map ended first_lines ++ text) (sym (flat_map-append ended (chosen_lines number) last_lines))
    ∙ sym (flat_map-append ended first_lines (chosen_lines number ++ last_lines))
