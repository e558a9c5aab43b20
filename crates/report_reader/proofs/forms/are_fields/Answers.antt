use Rattle.std.proofs.Common.{◌&&◌, ◌+◌, drop, sym, ◌∙◌, ap}
use Rattle.std.specs.Prelude.{is_some}
use Rattle.report_reader.specs.Forms.{are_fields}
use Rattle.line_reader.specs.Told.{words_ahead}
use Rattle.text_lines.specs.declared.forms.FieldKind.TheVariants.{Number}
use Rattle.report_reader.proofs.Rows.{row-more, row-short, row-end}
use Rattle.report_reader.proofs.forms.are_fields.Goals as goal

pub returns-then-not-is_field : goal.returns-then-not-is_field
returns-then-not-is_field c =
    ap (λ b. b && are_fields (drop (c.loop-field.field-index + 1) c.args.fields.now) (words_ahead c.next.new.self))
    c.if-not-is_field.ensures
    ∙ sym (row-more c.args.fields.now c.loop-field.field-index Number (words_ahead c.loop-field.words) c.in-Some.word.now
    (words_ahead c.next.new.self) c.loop-field-test.true c.in-Some.ensures)
    ∙ c.loop-field.invariant

pub returns-in-None : goal.returns-in-None
returns-in-None c =
    sym (row-short c.args.fields.now c.loop-field.field-index Number (words_ahead c.loop-field.words) c.loop-field-test.true
    c.in-None.ensures)
    ∙ c.loop-field.invariant

pub loop-field-preserved : goal.loop-field-preserved
loop-field-preserved c =
    ap (λ b. b && are_fields (drop (c.loop-field.field-index + 1) c.args.fields.now) (words_ahead c.next.new.self))
    c.if-not-is_field.ensures
    ∙ sym (row-more c.args.fields.now c.loop-field.field-index Number (words_ahead c.loop-field.words) c.in-Some.word.now
    (words_ahead c.next.new.self) c.loop-field-test.true c.in-Some.ensures)
    ∙ c.loop-field.invariant

pub returns : goal.returns
returns c =
    c.is_some.ensures ∙ ap is_some c.end.ensures
    ∙ sym (row-end c.args.fields.now c.loop-field.field-index (words_ahead c.loop-field.words) c.loop-field-test.false)
    ∙ c.loop-field.invariant
