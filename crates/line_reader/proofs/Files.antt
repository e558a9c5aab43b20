-- What is read of the lines of a file is what they say.
use Rattle.std.proofs.Common.{◌≡◌, ℕ, suc, ◌≤◌, true, false, cond, nat_lt, List, [], ◌∷◌, length, Result, Ok, Err, refl, ap, ◌∙◌, arith}
use Rattle.std.proofs.lemmas.Bool.{le-ltb}
use Rattle.std.proofs.lemmas.Bool.Decides.{nat_tests}
use Rattle.line_reader.specs.Lines.{line_text, words_in}
use Rattle.line_reader.specs.Phrases.{Phrase}
use Rattle.line_reader.specs.File.{Fault, NumberedLine, Say, or_fault, line_said, onto_others, all_said}
use Rattle.line_reader.specs.declared.text_fault.TextKind.{TextKind}

-- the words of a line are read as exactly what the line says
pub record IsReadingOf {A : Type 0} (says : Phrase A) (IsLine : List ℕ → A → Type 0) : Type 0 where
  pub right : (line : List ℕ) (a : A) → says (words_in (line_text line)) ≡ Ok a → IsLine line a
  pub full : (line : List ℕ) (a : A) → IsLine line a → says (words_in (line_text line)) ≡ Ok a

no_fault : {A : Type 0} (it : NumberedLine) (said : Result A TextKind) (a : A) → or_fault it said ≡ Ok a → said ≡ Ok a
no_fault it (Ok b) a h = cc
no_fault it (Err kind) a h = cc

-- a value that was read, and the others
pub record AreOnto {A : Type 0} (first : Result A Fault) (others : Result (List A) Fault) (all : List A) : Type 0 where
  pub value : A
  pub values : List A
  pub before : first ≡ Ok value
  pub behind : others ≡ Ok values
  pub is : all ≡ value ∷ values

onto_is : {A : Type 0} (first : Result A Fault) (others : Result (List A) Fault) (all : List A)
    → onto_others first others ≡ Ok all → AreOnto first others all
onto_is (Err fault) others all e = cc
onto_is (Ok a) (Err fault) all e = cc
onto_is (Ok a) (Ok values) all e = record { value = a; values = values; before = refl; behind = refl; is = cc }

say_more : {A : Type 0} (IsLine : List ℕ → A → Type 0) (it : NumberedLine) (lines : List NumberedLine) (all : List A) (a : A)
    (values : List A) → all ≡ a ∷ values → IsLine it.line a → Say IsLine lines values → Say IsLine (it ∷ lines) all
say_more IsLine it lines all a values is here others = rw is (here, others)

pub say_length : {A : Type 0} (IsLine : List ℕ → A → Type 0) (lines : List NumberedLine) (values : List A)
    → Say IsLine lines values → length lines ≡ length values
say_length IsLine [] [] h = refl
say_length IsLine [] (a ∷ values) h = absurd h
say_length IsLine (it ∷ lines) [] h = absurd h
say_length IsLine (it ∷ lines) (a ∷ values) h = ap suc (say_length IsLine lines values h.1)

module _ {A : Type 0} (says : Phrase A) (IsLine : List ℕ → A → Type 0) (reading : IsReadingOf says IsLine) where
  pub line_says : (it : NumberedLine) (a : A) → line_said says it ≡ Ok a → IsLine it.line a
  unfolding line_said
  line_says it a h = reading.right it.line a (no_fault it (says (words_in (line_text it.line))) a h)

  pub line_read : (it : NumberedLine) (a : A) → IsLine it.line a → line_said says it ≡ Ok a
  unfolding line_said
  line_read it a h = ap (or_fault it) (reading.full it.line a h)

  pub lines_say : (lines : List NumberedLine) (values : List A) → all_said says lines ≡ Ok values → Say IsLine lines values
  unfolding all_said
  lines_say [] [] h = tt
  lines_say [] (a ∷ values) h = cc
  lines_say (it ∷ lines) all h =
      let r = onto_is (line_said says it) (all_said says lines) all h in
      say_more IsLine it lines all r.value r.values r.is (line_says it r.value r.before) (lines_say lines r.values r.behind)

  pub lines_read : (lines : List NumberedLine) (values : List A) → Say IsLine lines values → all_said says lines ≡ Ok values
  unfolding all_said
  lines_read [] [] h = refl
  lines_read [] (a ∷ values) h = absurd h
  lines_read (it ∷ lines) [] h = absurd h
  lines_read (it ∷ lines) (a ∷ values) h =
      ap (λ r. onto_others r (all_said says lines)) (line_read it a h.0) ∙ ap (onto_others (Ok a)) (lines_read lines values h.1)

-- no more than so many
pub within : {A : Type 0} (most size : ℕ) (fault : Fault) (said : Result (List A) Fault) (values : List A)
    → cond (nat_lt most size) (Err fault) said ≡ Ok values → (size ≤ most) × (said ≡ Ok values)
within {A} most size fault said values e =
    elim (nat_lt most size) as (λ b. nat_lt most size ≡ b → ◌≡◌ {A = Result (List A) Fault} (cond b (Err fault) said) (Ok values)
    → (size ≤ most) × (said ≡ Ok values)) [
      | true ↦ λ is h. cc
      | false ↦ λ is h. (grind (arith, nat_tests), h)
    ] refl e

pub not_too_long : {A : Type 0} (most size : ℕ) (fault : Fault) (said : Result (List A) Fault) → size ≤ most
    → cond (nat_lt most size) (Err fault) said ≡ said
not_too_long most size fault said l = ap (λ b. cond b (Err fault) said) (le-ltb most size l)
