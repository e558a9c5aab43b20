-- The fault that is read of a file is its first.
use Rattle.std.proofs.Common.{◌≡◌, ℕ, inl, inr, true, false, cond, nat_lt, List, [], ◌∷◌, ◌++◌, length, Option, Result, Ok, Err}
use Rattle.std.proofs.Common.{refl, sym, ap, ◌∙◌, arith, lt-ltb}
use Rattle.std.proofs.lemmas.Bool.Decides.{nat_tests}
use Rattle.plain_lemmas.proofs.Options.{same_Err}
use Rattle.line_reader.specs.Lines.{line_text, words_in, is_text}
use Rattle.line_reader.specs.Phrases.{Phrase}
use Rattle.line_reader.specs.File.{Fault, NumberedLine, Say, file_lines, line_fault, or_fault, line_said, onto_others, all_said, file_in}
use Rattle.line_reader.specs.Places.{Slot, IsFirst, word_fault, IsWrongWith, IsLineFault, IsFileFault}
use Rattle.line_reader.specs.declared.text_fault.TextKind.{TextKind}
use Rattle.line_reader.specs.declared.text_fault.TextKind.TheVariants.{TooLong, NotText}
use Rattle.line_reader.proofs.Slots.{one_first}
use Rattle.line_reader.proofs.Files.{IsReadingOf, line_says, line_read, not_too_long}

-- a fault by its line and its kind
fault_by : (line : ℕ) (k : TextKind) (f : Fault) → line ≡ f.line → k ≡ f.kind → ◌≡◌ {A = Fault} (record { line = line; kind = k }) f
fault_by line k f number wrong =
    ap (λ n. let g : Fault = record { line = n; kind = k } in g) number
    ∙ ap (λ j. let g : Fault = record { line = f.line; kind = j } in g) wrong

-- a reading of lines, and the first word at fault of a line
module _ {A : Type 0} (says : Phrase A) (IsLine : List ℕ → A → Type 0) (reading : IsReadingOf says IsLine)
    (after : List ℕ → Option (List Slot))
    (faults : (words : List (List ℕ)) (k : TextKind) → says words ≡ Err k → IsFirst (word_fault after words) k) where
  -- ---- a line

  wrong_kind : (line : List ℕ) (k : TextKind) → IsFirst (word_fault after (words_in (line_text line))) k
      → IsWrongWith after line (cond (is_text line) k NotText)
  wrong_kind line k first =
      elim (is_text line) as (λ b. is_text line ≡ b → IsWrongWith after line (cond b k NotText)) [
        | true ↦ λ is. record { text = λ e. first; no_text = λ e. cc }
        | false ↦ λ is. record { text = λ e. cc; no_text = λ e. refl }
      ] refl

  -- what is wrong with it is one kind
  kind_is : (line : List ℕ) (j k : TextKind) → IsFirst (word_fault after (words_in (line_text line))) j → IsWrongWith after line k
      → cond (is_text line) j NotText ≡ k
  kind_is line j k first wrong =
      elim (is_text line) as (λ b. is_text line ≡ b → cond b j NotText ≡ k) [
        | true ↦ λ is. one_first (word_fault after (words_in (line_text line))) j k first (wrong.text is)
        | false ↦ λ is. sym (wrong.no_text is)
      ] refl

  -- what the words of a line at fault say
  silent_words : (at : NumberedLine) → ((a : A) → IsLine at.line a → ⊥)
      → (said : Result A TextKind) → says (words_in (line_text at.line)) ≡ said → (f : Fault) → f.line ≡ at.number
      → IsWrongWith after at.line f.kind → or_fault at said ≡ Err f
  unfolding line_said
  silent_words at silent (Ok a) is f number wrong = absurd (silent a (line_says says IsLine reading at a (ap (or_fault at) is)))
  silent_words at silent (Err j) is f number wrong =
      ap (λ g. Err g)
      (fault_by at.number _ f (sym number) (kind_is at.line j f.kind (faults (words_in (line_text at.line)) j is) wrong))

  silent_line : (at : NumberedLine) (f : Fault) → ((a : A) → IsLine at.line a → ⊥) → f.line ≡ at.number
      → IsWrongWith after at.line f.kind → line_said says at ≡ Err f
  unfolding line_said
  silent_line at f silent number wrong =
      silent_words at silent (says (words_in (line_text at.line))) refl f number wrong

  says_nothing : (at : NumberedLine) (f : Fault) (a : A) → line_said says at ≡ Err f → IsLine at.line a → ⊥
  says_nothing at f a e is = let said = line_read says IsLine reading at a is in cc

  wrong_words : (at : NumberedLine) (said : Result A TextKind) (f : Fault) → says (words_in (line_text at.line)) ≡ said
      → or_fault at said ≡ Err f → (f.line ≡ at.number) × IsWrongWith after at.line f.kind
  wrong_words at (Ok a) f is e = cc
  wrong_words at (Err j) f is e =
      let same : line_fault at j ≡ f = same_Err {A = A} (line_fault at j) f e in
      rw (sym same) (refl, wrong_kind at.line j (faults (words_in (line_text at.line)) j is))

  wrong_line : (at : NumberedLine) (f : Fault) → line_said says at ≡ Err f → (f.line ≡ at.number) × IsWrongWith after at.line f.kind
  unfolding line_said
  wrong_line at f e = wrong_words at (says (words_in (line_text at.line))) f refl e

  -- ---- the lines

  onto_fault : (a : A) (others : Result (List A) Fault) (f : Fault) → onto_others (Ok a) others ≡ Err f
      → others ≡ Err f
  onto_fault a (Err g) f e = cc
  onto_fault a (Ok values) f e = cc

  pub lines_fault : (lines : List NumberedLine) (f : Fault) → all_said says lines ≡ Err f → IsLineFault IsLine after lines f
  unfolding all_said
  lines_fault [] f e = cc
  lines_fault (it ∷ lines) f e =
      elim (line_said says it) as (λ said. line_said says it ≡ said
      → onto_others said (all_said says lines) ≡ Err f → IsLineFault IsLine after (it ∷ lines) f) [
        | Err g ↦ λ is h. (
            let here : line_said says it ≡ Err f = is ∙ ap (λ x. Err x) (same_Err {A = List A} g f h) in
            let wrong = wrong_line it f here in
            record {
              earlier = [];
              at = it;
              later = lines;
              values = [];
              whole = refl;
              said = tt;
              silent = λ a said. says_nothing it f a here said;
              number = wrong.0;
              wrong = wrong.1;
            })
        | Ok a ↦ λ is h. (
            let more = lines_fault lines f (onto_fault a (all_said says lines) f h) in
            record {
              earlier = it ∷ more.earlier;
              at = more.at;
              later = more.later;
              values = a ∷ more.values;
              whole = ap (λ (ls : List NumberedLine). it ∷ ls) more.whole;
              said = (line_says says IsLine reading it a is, more.said);
              silent = more.silent;
              number = more.number;
              wrong = more.wrong;
            })
      ] refl e

  fault_past : (earlier : List NumberedLine) (values : List A) (at : NumberedLine) (later : List NumberedLine) (f : Fault)
      → Say IsLine earlier values → line_said says at ≡ Err f → all_said says (earlier ++ at ∷ later) ≡ Err f
  unfolding all_said
  fault_past [] [] at later f said here = ap (λ r. onto_others r (all_said says later)) here
  fault_past [] (a ∷ values) at later f said here = absurd said
  fault_past (it ∷ earlier) [] at later f said here = absurd said
  fault_past (it ∷ earlier) (a ∷ values) at later f said here =
      ap (λ r. onto_others r (all_said says (earlier ++ at ∷ later))) (line_read says IsLine reading it a said.0)
      ∙ ap (onto_others (Ok a)) (fault_past earlier values at later f said.1 here)

  fault_read : (lines : List NumberedLine) (f : Fault) → IsLineFault IsLine after lines f → all_said says lines ≡ Err f
  fault_read lines f it =
      ap (all_said says) it.whole
      ∙ fault_past it.earlier it.values it.at it.later f it.said (silent_line it.at f it.silent it.number it.wrong)

  -- ---- a file

  pub is_fault : (bytes : List ℕ) (fault : Fault) → file_in says bytes ≡ Err fault → IsFileFault IsLine after bytes fault
  is_fault bytes fault e =
      elim (nat_lt 67108864 (length bytes)) as (λ b. nat_lt 67108864 (length bytes) ≡ b
      → cond b (Err (record { line = 0; kind = TooLong })) (all_said says (file_lines bytes)) ≡ Err fault
      → IsFileFault IsLine after bytes fault) [
        | true ↦ λ is h. (
            let same = same_Err {A = List A} (record { line = 0; kind = TooLong }) fault h in
            inl (record {
              exceeds = grind (arith, nat_tests);
              number = ap (λ (f : Fault). f.line) (sym same);
              wrong = ap (λ (f : Fault). f.kind) (sym same);
            }))
        | false ↦ λ is h. inr (record { fits = grind (arith, nat_tests); first = lines_fault (file_lines bytes) fault h })
      ] refl e

  pub fault_is : (bytes : List ℕ) (fault : Fault) → IsFileFault IsLine after bytes fault → file_in says bytes ≡ Err fault
  fault_is bytes fault (inl it) =
      let long : nat_lt 67108864 (length bytes) ≡ true = lt-ltb 67108864 (length bytes) it.exceeds in
      ap (λ b. cond b (Err (record { line = 0; kind = TooLong })) (all_said says (file_lines bytes))) long
      ∙ ap (λ f. Err f) (fault_by 0 TooLong fault (sym it.number) (sym it.wrong))
  fault_is bytes fault (inr it) =
      not_too_long _ (length bytes) _ (all_said says (file_lines bytes)) it.fits ∙ fault_read (file_lines bytes) fault it.first
