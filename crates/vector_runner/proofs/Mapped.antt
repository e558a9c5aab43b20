-- Lists that are walked from the first element on, each seen as the code's own type tells it.
use Rattle.std.proofs.Common.{◌≡◌, ℕ, ◌+◌, ◌<◌, ◌≤◌, ◌++◌, ◌∷◌, List, [], length, take, get_or, map, refl, sym, ap, ◌∙◌, arith, append_assoc, All, true}
use Rattle.std.proofs.lemmas.Grind.{common_steps, flat_map-append}
use Rattle.std.proofs.lemmas.List.{append-nil, length-map, map-append, take_more, take_all}
use Rattle.std.proofs.Math.ListN.{get_or-map}
use Rattle.std.specs.List.{flat_map}
use Rattle.sm_types.specs.declared.length.VecLen.{VecLen}
use Rattle.machine_step.specs.ProcessorState.{ProcessorState}
use Rattle.vector_runner.specs.declared.vector.Field as code
use Rattle.vector_runner.specs.declared.vector.Vector as code_vector
use Rattle.vector_runner.specs.declared.vector.Modes.{Modes}
use Rattle.vector_runner.specs.Field.{Field, field_text, modes_after, modes_with, modes_of, fits}
use Rattle.vector_runner.specs.State.{with_field, with_fields}
use Rattle.vector_runner.specs.Answer.{answer, spaced}
use Rattle.vector_runner.specs.Run.{answers}
use Rattle.vector_runner.specs.Told.{field_told, vector_told}
use Rattle.vector_runner.specs.Words.{no_modes}

-- one element more
pub mapped_more : {A B : Type 0} (h : A → B) (xs : List A) (i : ℕ) (x : A) → i < length xs → x ≡ get_or xs i x
    → map h (take (i + 1) xs) ≡ map h (take i xs) ++ h x ∷ []
mapped_more h xs i x l is =
    ap (map h) (take_more xs i x l ∙ ap (λ y. take i xs ++ y ∷ []) (sym is)) ∙ map-append h (take i xs) (x ∷ [])

pub with_last : (s : ProcessorState) (fields : List Field) (f : Field)
    → with_fields s (fields ++ f ∷ []) ≡ with_field (with_fields s fields) f
unfolding with_fields
with_last s [] f = refl
with_last s (e ∷ fields) f = with_last (with_field s e) fields f

pub modes_last : (modes : Modes) (fields : List Field) (f : Field)
    → modes_with modes (fields ++ f ∷ []) ≡ modes_after (modes_with modes fields) f
unfolding modes_with
modes_last modes [] f = refl
modes_last modes (e ∷ fields) f = modes_last (modes_after modes e) fields f

pub spaced_last : (fields : List Field) (f : Field) → spaced (fields ++ f ∷ []) ≡ spaced fields ++ 32 ∷ field_text f
unfolding spaced
spaced_last fields f =
    flat_map-append (λ e. 32 ∷ field_text e) fields (f ∷ [])
    ∙ ap (λ l. flat_map (λ e. 32 ∷ field_text e) fields ++ l) (append-nil (32 ∷ field_text f))

-- ---- one turn of a loop more

pub parts_more : {A : Type 0} (f : A → List ℕ) (xs : List A) (i : ℕ) (d : A) (before now next : List ℕ) → i < length xs
    → now ≡ before ++ flat_map f (take i xs) → next ≡ now ++ f (get_or xs i d) → next ≡ before ++ flat_map f (take (i + 1) xs)
parts_more f xs i d before now next l h e =
    let more : flat_map f (take i xs) ++ f (get_or xs i d) ≡ flat_map f (take (i + 1) xs) =
    sym (rw (take_more xs i d l, flat_map-append) (grind (arith, common_steps))) in
    e ∙ ap (λ t. t ++ f (get_or xs i d)) h ∙ append_assoc before (flat_map f (take i xs)) (f (get_or xs i d)) ∙ ap (λ t. before ++ t) more

module _ (xs : List code.Field) (i : ℕ) (it : code.Field) (l : i < length xs) (is : it ≡ get_or xs i it) where
  told_more : map field_told (take (i + 1) xs) ≡ map field_told (take i xs) ++ field_told it ∷ []
  told_more = mapped_more field_told xs i it l is

  pub fields_more : (before now next : List ℕ) → now ≡ before ++ spaced (map field_told (take i xs))
      → next ≡ now ++ 32 ∷ field_text (field_told it) → next ≡ before ++ spaced (map field_told (take (i + 1) xs))
  fields_more before now next h e =
      let more : spaced (map field_told (take i xs)) ++ 32 ∷ field_text (field_told it) ≡ spaced (map field_told (take (i + 1) xs)) =
      sym (ap spaced told_more ∙ spaced_last (map field_told (take i xs)) (field_told it)) in
      e ∙ ap (λ t. t ++ 32 ∷ field_text (field_told it)) h
      ∙ append_assoc before (spaced (map field_told (take i xs))) (32 ∷ field_text (field_told it)) ∙ ap (λ t. before ++ t) more

  pub state_more : (first now next : ProcessorState) → now ≡ with_fields first (map field_told (take i xs))
      → next ≡ with_field now (field_told it) → next ≡ with_fields first (map field_told (take (i + 1) xs))
  state_more first now next h e =
      e ∙ ap (λ s. with_field s (field_told it)) h
      ∙ sym (ap (with_fields first) told_more ∙ with_last first (map field_told (take i xs)) (field_told it))

  pub modes_more : (now next : Modes) → now ≡ modes_of (map field_told (take i xs)) → next ≡ modes_after now (field_told it)
      → next ≡ modes_of (map field_told (take (i + 1) xs))
  modes_more now next h e =
      e ∙ ap (λ m. modes_after m (field_told it)) h
      ∙ sym (ap modes_of told_more ∙ modes_last no_modes (map field_told (take i xs)) (field_told it))

pub fields_end : (xs : List code.Field) (i : ℕ) → length xs ≤ i → map field_told (take i xs) ≡ map field_told xs
fields_end xs i l = ap (map field_told) (take_all i xs l)

pub parts_end : {A : Type 0} (f : A → List ℕ) (xs : List A) (i : ℕ) → length xs ≤ i → flat_map f (take i xs) ≡ flat_map f xs
parts_end f xs i l = ap (flat_map f) (take_all i xs l)

-- an answer more
pub answers_more : (vl svl : VecLen) (xs : List code_vector.Vector) (i : ℕ) (it : code_vector.Vector) (now next : List (List ℕ))
    (line : List ℕ)
    → i < length xs → it ≡ get_or xs i it → now ≡ answers vl svl (map vector_told (take i xs)) → line ≡ answer vl svl (vector_told it)
    → next ≡ now ++ line ∷ [] → next ≡ answers vl svl (map vector_told (take (i + 1) xs))
unfolding answers
answers_more vl svl xs i it now next line l is h e made =
    made ∙ ap (λ a. a ++ line ∷ []) h ∙ ap (λ t. answers vl svl (map vector_told (take i xs)) ++ t ∷ []) e
    ∙ sym (map-append (answer vl svl) (map vector_told (take i xs)) (vector_told it ∷ []))
    ∙ sym (ap (answers vl svl) (mapped_more vector_told xs i it l is))

pub answers_end : (vl svl : VecLen) (xs : List code_vector.Vector) (i : ℕ) → length xs ≤ i
    → answers vl svl (map vector_told (take i xs)) ≡ answers vl svl (map vector_told xs)
answers_end vl svl xs i l = ap (λ ys. answers vl svl (map vector_told ys)) (take_all i xs l)

-- each field of the code fits, where each that it tells does
pub all_mapped : (vl svl : VecLen) (modes : Modes) (xs : List code.Field) → modes ≡ modes_of (map field_told xs)
    → All (λ f. fits vl svl (modes_of (map field_told xs)) f ≡ true) (map field_told xs)
    → All (λ f. fits vl svl modes (field_told f) ≡ true) xs
all_mapped vl svl modes xs same h k d l =
    let inside : k < length (map field_told xs) = omega (arith, length-map xs field_told) in
    ap (λ m. fits vl svl m (field_told (get_or xs k d))) same
    ∙ ap (λ f. fits vl svl (modes_of (map field_told xs)) f) (sym (get_or-map field_told xs k d)) ∙ h k (field_told d) inside
