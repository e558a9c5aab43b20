-- Labels, and lines as a whole.
use Rattle.std.proofs.Common.{◌≡◌, ◌≢◌, ℕ, ◌+◌, true, false, not, ◌&&◌, ◌==◌, List, Option, Some, None, Ok, Err, length, drop, get_or}
use Rattle.std.proofs.Common.{slice_get, refl, sym, ap, ap₂, ◌∙◌, arith}
use Rattle.std.specs.Prelude.{option_map}
use Rattle.std.proofs.Math.Seq.{take-length}
use Rattle.std.proofs.lemmas.Bool.{cond-true, cond-false}
use Rattle.std.proofs.lemmas.List.{get_or-drop}
use Rattle.asm_tokens.specs.declared.token.Lexeme.{Lexeme}
use Rattle.asm_tokens.specs.Characters.{is_blank, is_digit, front, back, characters, column_at, before_comment}
use Rattle.asm_tokens.specs.Tokens.{run}
use Rattle.asm_operands.specs.declared.fault.FaultKind.{FaultKind}
use Rattle.asm_operands.specs.declared.fault.FaultKind.TheVariants.{UnknownName, BadNumber, Extra, BadOperand}
use Rattle.asm_parser.specs.declared.line.LineFault.{LineFault}
use Rattle.asm_parser.specs.declared.line.LineFault.TheVariants as LineFaults
use Rattle.asm_parser.specs.declared.parse_fault.ParseFault.{ParseFault}
use Rattle.asm_parser.specs.declared.parse_fault.ParseFault.TheVariants.{Syntax, Memory}
use Rattle.asm_parser.specs.Statements.{Says, SourceLine}
use Rattle.asm_parser.specs.Lines.{Answer, Tells, Stops, blanks, label_in, has_label, label_of, label_end, column_of, fault_of_kind}
use Rattle.asm_parser.specs.Lines.{line_answer, line_lexemes, begin_list, keeps_list, line_of, tokens_say}
use Rattle.asm_parser.specs.Told.{located, lexemes_from, said_from, column_from, line_fault_of, FaultsAs, is_label}

module _ (text : List ℕ) (start end : ℕ) (name : List ℕ)
    (begins : start ≡ 0 + length (front is_blank (drop 0 text))) (runs : name ≡ run (drop start text)) (ends : end ≡ start + length name)
  where
    blanks-is : start ≡ blanks text
    unfolding blanks
    blanks-is = omega (arith, begins)

    label-in : name ≡ label_in text
    label-in = runs ∙ ap (λ n. run (drop n text)) (omega (arith, begins))

    label-is : is_label text name end ≡ has_label text
    unfolding has_label
    label-is =
        let colon : get_or text end 0 ≡ get_or (back is_blank text) (length name) 0 =
        ap (λ k. get_or text k 0) (let e : end ≡ length (front is_blank text) + length name = omega (arith, begins) in e)
        ∙ sym (get_or-drop (length (front is_blank text)) text (length name) 0) in
        ap (λ k. not (length name == 0) && not (is_digit (get_or name 0 0)) && (k == 58)) colon
        ∙ ap (λ ys. not (length ys == 0) && not (is_digit (get_or ys 0 0)) && (get_or (back is_blank text) (length ys) 0 == 58)) label-in

    pub label-some : is_label text name end ≡ true → (Some name ≡ label_of text) × (end + 1 ≡ label_end text)
    unfolding label_of label_end
    label-some e =
        let has : has_label text ≡ true = sym label-is ∙ e in
        let sum : end + 1 ≡ blanks text + length (label_in text) + 1 = omega (arith, blanks-is, ap length label-in) in (
          ap Some label-in ∙ sym (cond-true (has_label text) (Some (label_in text)) None has),
          sum ∙ sym (cond-true (has_label text) _ 0 has),
        )

    pub label-none : is_label text name end ≡ false → (None ≡ label_of text) × (0 ≡ label_end text)
    unfolding label_of label_end
    label-none e =
        let has : has_label text ≡ false = sym label-is ∙ e in
        (sym (cond-false (has_label text) (Some (label_in text)) None has), sym (cond-false (has_label text) _ 0 has))

-- ---- lines

column-is : (line : List ℕ) (o : Option Lexeme) → column_of line o ≡ column_from line (option_map (λ (l : Lexeme). l.start) o)
unfolding column_from column_at
column-is line None = ap (λ (xs : List ℕ). characters xs + 1) (sym (take-length line))
column-is line (Some l) = refl

module _ (line : List ℕ) (label : Option (List ℕ)) (ls : List Lexeme) where
  answer-ok : (answer : Answer Says) (says : Says) → located ls answer ≡ Ok says
      → line_answer line label ls answer ≡ Ok (record { label = label; says = says })
  unfolding located
  answer-ok (Tells a) says e =
      let same : a ≡ says = cc in ap (λ (x : Says). let l : SourceLine = record { label = label; says = x } in Ok l) same
  answer-ok (Stops index kind) says e = cc

  answer-err : (answer : Answer Says) (start : Option ℕ) (kind : FaultKind) → located ls answer ≡ Err (Syntax start kind)
      → line_answer line label ls answer ≡ Err (fault_of_kind kind (column_from line start))
  unfolding located
  answer-err (Tells a) start kind e = cc
  answer-err (Stops index why) start kind e =
      let here : option_map (λ (l : Lexeme). l.start) (slice_get ls index) ≡ start = cc in
      let same : why ≡ kind = cc in
      ap Err (ap₂ fault_of_kind same (column-is line (slice_get ls index) ∙ ap (column_from line) here))

no_memory : (kind : FaultKind) (column : ℕ) → fault_of_kind kind column ≡ LineFaults.Memory → ⊥
no_memory UnknownName column e = cc
no_memory BadNumber column e = cc
no_memory Extra column e = cc
no_memory BadOperand column e = cc

module _ (line text : List ℕ) (label : Option (List ℕ)) (end : ℕ) (part : text ≡ before_comment line) (labels : label ≡ label_of text)
    (ends : end ≡ label_end text) where
  line-is : line_of line ≡ line_answer line label (lexemes_from text end) (tokens_say line (lexemes_from text end))
  unfolding line_of line_lexemes
  line-is =
      ap (λ xs. line_answer line (label_of xs) (lexemes_from xs (label_end xs)) (tokens_say line (lexemes_from xs (label_end xs))))
      (sym part)
      ∙ ap₂ (λ x n. line_answer line x (lexemes_from text n) (tokens_say line (lexemes_from text n))) (sym labels) (sym ends)

  pub line-ok : (says : Says) → said_from (tokens_say line) text end ≡ Ok says → line_of line ≡ Ok (record { label = label; says = says })
  unfolding said_from
  line-ok says e = line-is ∙ answer-ok line label (lexemes_from text end) _ says e

  pub line-err : (parse : ParseFault) (fault : LineFault) → fault ≡ line_fault_of line parse
      → FaultsAs parse (said_from (tokens_say line) text end)
      → fault ≢ LineFaults.Memory
      → line_of line ≡ Err fault
  unfolding said_from line_fault_of
  line-err Memory fault is e other = absurd (other is)
  line-err (Syntax start kind) fault is e other = line-is ∙ answer-err line label (lexemes_from text end) _ start kind e ∙ ap Err (sym is)

  pub line-memory : (parse : ParseFault) (fault : LineFault) → fault ≡ line_fault_of line parse
      → (parse ≡ Memory → begin_list line (lexemes_from text end) ≡ true) → fault ≡ LineFaults.Memory
      → keeps_list line ≡ true
  unfolding line_fault_of keeps_list line_lexemes
  line-memory Memory fault is h e =
      ap (λ xs. begin_list line (lexemes_from xs (label_end xs))) (sym part) ∙ ap (λ n. begin_list line (lexemes_from text n)) (sym ends)
      ∙ h refl
  line-memory (Syntax start kind) fault is h e = absurd (no_memory kind (column_from line start) (sym is ∙ e))
