use Rattle.std.proofs.Common.{◌++◌, ap, ◌∙◌, arith}
use Rattle.vector_runner.specs.Answer.{spaced}
use Rattle.vector_runner.proofs.Mapped.{fields_end, fields_more}
use Rattle.vector_runner.proofs.text.put_fields.Goals as goal

pub loop-field-preserved : goal.loop-field-preserved
loop-field-preserved c =
    fields_more c.args.fields.now c.loop-field.field-index c.field-item.result c.loop-field-test.true c.field-item.is
    c.args.line.now.items c.loop-field.line.items _ c.loop-field.invariant c.in_ok-put_field.ensures

pub returns : goal.returns
returns c =
    c.loop-field.invariant
    ∙ ap (λ fields. c.args.line.now.items ++ spaced fields) (fields_end c.args.fields.now c.loop-field.field-index (omega arith))
