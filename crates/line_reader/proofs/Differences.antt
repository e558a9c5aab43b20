-- The first line in which two texts differ.
use Rattle.std.proofs.Common.{◌≡◌, ◌≢◌, ℕ, ◌+◌, ◌≤◌, ◌==◌, Bool, true, false, cond, List, [], ◌∷◌, length, refl, sym, ap, ◌∙◌}
use Rattle.std.proofs.Common.{Some, None}
use Rattle.std.specs.List.{concat}
use Rattle.std.specs.Str.{bytes_eq}
use Rattle.std.proofs.lemmas.Slice.Eq.{bytes_eq-Decides}
use Rattle.std.proofs.lemmas.List.{nil_from_length}
use Rattle.plain_lemmas.proofs.Lists.{bytes_eq-self}
use Rattle.line_reader.specs.Difference.{first_difference}
use Rattle.line_reader.specs.Lines.{lines_of, onto_first, with_first}

-- the lines before these were the same in both texts
pub record IsCompared (first second : List ℕ) (line : ℕ) (left right : List ℕ) : Type 0 where
  pub so_far : first_difference 0 (lines_of first) (lines_of second) ≡ first_difference line (lines_of left) (lines_of right)
  pub counted : line + length left ≤ length first

other_bytes : (a b : List ℕ) → a ≢ b → bytes_eq a b ≡ false
other_bytes a b d = elim (bytes_eq a b) as (λ t. bytes_eq a b ≡ t → t ≡ false) [
  | true ↦ λ is. absurd (d ((bytes_eq-Decides a b).0 is))
  | false ↦ λ is. refl
] refl

-- both have the same line here, which is not empty
same_line : (line : ℕ) (a : List ℕ) (more others : List (List ℕ)) → (length a ≡ 0 → ⊥)
    → first_difference line (with_first a more) (with_first a others) ≡ first_difference (line + 1) more others
unfolding first_difference
same_line line [] more others some = absurd (some refl)
same_line line (x ∷ xs) more others some = rw (bytes_eq-self (x ∷ xs)) refl

other_line : (line : ℕ) (a b : List ℕ) (more others : List (List ℕ)) → a ≢ b → (length a ≡ 0 → more ≡ []) → (length b ≡ 0 → others ≡ [])
    → first_difference line (with_first a more) (with_first b others) ≡ Some (record { line = line; first = a; second = b })
unfolding first_difference
other_line line [] [] more others d left right = absurd (d refl)
other_line line [] (y ∷ ys) more others d left right = rw (left refl) refl
other_line line (x ∷ xs) [] more others d left right = rw (right refl) refl
other_line line (x ∷ xs) (y ∷ ys) more others d left right = rw (other_bytes (x ∷ xs) (y ∷ ys) d) refl

-- of nothing there are no lines
no_lines : (text : List ℕ) → length text ≡ 0 → lines_of text ≡ []
unfolding lines_of
no_lines [] e = refl
no_lines (b ∷ bs) e = cc

module _ (first second : List ℕ) (line : ℕ) (left right a b more others : List ℕ) (h : IsCompared first second line left right)
    (one : lines_of left ≡ with_first a (lines_of more)) (two : lines_of right ≡ with_first b (lines_of others)) where
  here : first_difference 0 (lines_of first) (lines_of second)
      ≡ first_difference line (with_first a (lines_of more)) (with_first b (lines_of others))
  here = h.so_far ∙ ap (λ ls. first_difference line ls (lines_of right)) one ∙ ap (first_difference line (with_first a (lines_of more))) two

  pub differs_here : a ≢ b → (length a ≡ 0 → length more ≡ 0) → (length b ≡ 0 → length others ≡ 0)
      → first_difference 0 (lines_of first) (lines_of second) ≡ Some (record { line = line; first = a; second = b })
  differs_here d whole whole_too =
      here ∙ other_line line a b (lines_of more) (lines_of others) d (λ e. no_lines more (whole e)) (λ e. no_lines others (whole_too e))

  pub compared_on : a ≡ b → (length a ≡ 0 → ⊥) → length a + length more ≡ length left → line + 1 + length more ≤ length first
      → IsCompared first second (line + 1) more others
  compared_on same some sizes fits = record {
    so_far =
        here ∙ ap (λ l. first_difference line (with_first a (lines_of more)) (with_first l (lines_of others))) (sym same)
        ∙ same_line line a (lines_of more) (lines_of others) some;
    counted = fits;
  }

  pub ends_here : a ≡ b → length a ≡ 0 → (length a ≡ 0 → length more ≡ 0) → (length b ≡ 0 → length others ≡ 0)
      → first_difference 0 (lines_of first) (lines_of second) ≡ None
  unfolding first_difference
  ends_here same none whole whole_too =
      let empty : a ≡ [] = nil_from_length a none in
      let empty_too : b ≡ [] = sym same ∙ empty in
      here ∙ ap (λ l. first_difference line (with_first l (lines_of more)) (with_first b (lines_of others))) empty
      ∙ ap (λ l. first_difference line (lines_of more) (with_first l (lines_of others))) empty_too
      ∙ ap (λ ls. first_difference line ls (lines_of others)) (no_lines more (whole none))
      ∙ ap (first_difference line []) (no_lines others (whole_too (ap length (sym same) ∙ none)))

-- ---- texts without a difference are the same

onto_concat : (b : ℕ) (lines : List (List ℕ)) → concat (onto_first b lines) ≡ b ∷ concat lines
onto_concat b [] = refl
onto_concat b (line ∷ lines) = refl

cut_concat : (b : ℕ) (bs : List ℕ) (ends : Bool) → concat (lines_of bs) ≡ bs
    → concat (cond ends ((b ∷ []) ∷ lines_of bs) (onto_first b (lines_of bs))) ≡ b ∷ bs
cut_concat b bs true e = ap (λ (rest : List ℕ). b ∷ rest) e
cut_concat b bs false e = onto_concat b (lines_of bs) ∙ ap (λ (rest : List ℕ). b ∷ rest) e

lines_whole : (text : List ℕ) → concat (lines_of text) ≡ text
unfolding lines_of
lines_whole [] = refl
lines_whole (b ∷ bs) = cut_concat b bs (b == 10) (lines_whole bs)

no_difference : (line : ℕ) (xs ys : List (List ℕ)) → first_difference line xs ys ≡ None → xs ≡ ys
unfolding first_difference
no_difference line [] [] e = refl
no_difference line [] (y ∷ ys) e = cc
no_difference line (x ∷ xs) [] e = cc
no_difference line (x ∷ xs) (y ∷ ys) e =
    elim (bytes_eq x y) as (λ t. bytes_eq x y ≡ t
    → cond t (first_difference (line + 1) xs ys) (Some (record { line = line; first = x; second = y })) ≡ None
    → ◌≡◌ {A = List (List ℕ)} (x ∷ xs) (y ∷ ys)) [
      | true ↦ λ is h. ap (λ (l : List ℕ). l ∷ xs) ((bytes_eq-Decides x y).0 is)
          ∙ ap (λ (ls : List (List ℕ)). y ∷ ls) (no_difference (line + 1) xs ys h)
      | false ↦ λ is h. cc
    ] refl e

pub same_texts : (first second : List ℕ) → first_difference 0 (lines_of first) (lines_of second) ≡ None → first ≡ second
same_texts first second e =
    sym (lines_whole first) ∙ ap concat (no_difference 0 (lines_of first) (lines_of second) e) ∙ lines_whole second
