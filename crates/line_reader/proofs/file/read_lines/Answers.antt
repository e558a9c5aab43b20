use Rattle.std.proofs.Common.{rules, ◌≡◌, ◌≢◌, ℕ, length, Bool, true, false, List, Result, sym, ap, ◌∙◌, arith, subst}
use Rattle.std.proofs.lemmas.Bool.Decides.{nat_tests}
use Rattle.line_reader.specs.Reading.{Left, next_line}
use Rattle.line_reader.specs.Told.{left_of}
use Rattle.line_reader.proofs.Past.{first_is}
use Rattle.line_reader.specs.Phrases.{Phrase}
use Rattle.line_reader.specs.File.{Fault, all_said, has_text, line_said, some_lines}
use Rattle.line_reader.specs.Told.{IsFault, next_of}
use Rattle.line_reader.specs.declared.text_fault.TextFault.{TextFault}
use Rattle.line_reader.specs.declared.text_fault.TextFault.TheVariants as fault
use Rattle.line_reader.proofs.FileLines.{behind, value-read, empty-passed, fault-read, all-read}
use Rattle.line_reader.proofs.file.read_lines.Goals as goal
use Rattle.line_reader.proofs.file.read_lines.Goals.{then-has_text+in_ok-value+in_ok-push, else-has_text}

-- the line that is tested is the next one
some_next : (line : List ℕ) (left : Left) (empty : length line ≢ 0) → line ≡ next_line left → length (next_line left) ≢ 0
some_next line left some is = subst (λ (l : List ℕ). length l ≢ 0) is some

tested : (line : List ℕ) (left : Left) (t : Bool) → line ≡ next_line left → t ≡ has_text line → has_text (next_line left) ≡ t
tested line left t is test = ap has_text (sym is) ∙ sym test

pub lines-smaller : goal.lines-smaller
lines-smaller g c =
    let s = c.lines.lines in
    let some : length c.line.result.now ≢ 0 = grind (arith, nat_tests) in
    c.pass.ensures.fewer
    (subst (λ (l : List ℕ). length l ≢ 0) (c.line.ensures ∙ sym (first_is s.line.now s.rest.now s.whole)) some)

pub lines-preserved : goal.lines-preserved
lines-preserved g c =
    let left = left_of c.lines.lines in
    let after = left_of c.pass.new.self in
    let line : length c.line.result.now ≢ 0 = grind (arith, nat_tests) in
    let some = some_next c.line.result.now left line c.line.ensures in
    elim c.if-has_text.branch [
      | then-has_text+in_ok-value+in_ok-push w ↦
          let text = tested c.line-in-lines.result.now left true c.line-in-lines.ensures w.if-has_text.ensures in
          ap (λ items. behind items (all_said g.F.LineFormat.said_by (some_lines after.line after.lines)))
          (ap (λ v. v.items) w.values-is ∙ w.in_ok-push.ensures.items)
          ∙ value-read g.F.LineFormat.said_by c.lines.values.items left after c.pass.ensures.past some w.in_ok-value.value
          text w.in_ok-value.ensures
          ∙ c.lines.invariant
      | else-has_text w ↦
          let text = tested c.line-in-lines.result.now left false c.line-in-lines.ensures w.if-has_text.ensures in
          ap (λ items. behind items (all_said g.F.LineFormat.said_by (some_lines after.line after.lines))) (ap (λ v. v.items) w.values-is)
          ∙ empty-passed g.F.LineFormat.said_by c.lines.values.items left after c.pass.ensures.past some text
          ∙ c.lines.invariant
    ]

pub returns : goal.returns
returns g c =
    let s = c.lines.lines in
    let none : length c.line.result.now ≡ 0 = grind (arith, nat_tests) in
    let empty : length s.line.now ≡ 0 = ap length (first_is s.line.now s.rest.now s.whole ∙ sym c.line.ensures) ∙ none in
    sym c.lines.invariant ∙ all-read g.F.LineFormat.said_by c.lines.values.items s.number s.line.now s.rest.now empty (s.whole empty)

-- the fault of a line is that of all
whole_fault : {A : Type 0} (says : Phrase A) (before : List A) (left : Left) (whole : Result (List A) Fault) (it : TextFault)
    → length (next_line left) ≢ 0 → has_text (next_line left) ≡ true
    → behind before (all_said says (some_lines left.line left.lines)) ≡ whole
    → IsFault (line_said says (next_of left)) it → IsFault whole it
whole_fault says before left whole (fault.Line line kind) some text is h =
    sym is ∙ fault-read says before left (record { line = line; kind = kind }) some text h
whole_fault says before left whole fault.Memory some text is h = tt

pub returns-in_err-value : goal.returns-in_err-value
returns-in_err-value g c =
    let left = left_of c.lines.lines in
    let line : length c.line.result.now ≢ 0 = grind (arith, nat_tests) in
    let some = some_next c.line.result.now left line c.line.ensures in
    let text = tested c.line-in-lines.result.now left true c.line-in-lines.ensures c.if-has_text.ensures in
    let it = c.in_err-value.field-0.0 in
    let bad : IsFault (all_said g.F.LineFormat.said_by (some_lines (left_of c.args.lines.now).line (left_of c.args.lines.now).lines)) it =
    whole_fault g.F.LineFormat.said_by c.lines.values.items left _ it some text c.lines.invariant c.in_err-value.ensures in
    search rules
