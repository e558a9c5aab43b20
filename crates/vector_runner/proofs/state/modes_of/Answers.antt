use Rattle.std.proofs.Common.{refl, ap, ◌∙◌, arith}
use Rattle.vector_runner.specs.Field.{modes_of, modes_with}
use Rattle.vector_runner.proofs.Mapped.{fields_end, modes_more}
use Rattle.vector_runner.proofs.state.modes_of.Goals as goal

pub loop-field-init : goal.loop-field-init
unfolding modes_with
loop-field-init c = refl

pub loop-field-preserved : goal.loop-field-preserved
loop-field-preserved c =
    modes_more c.args.fields.now c.loop-field.field-index c.field-item.result c.loop-field-test.true c.field-item.is
    c.loop-field.modes _ c.loop-field.invariant c.modes_after-modes.ensures

pub returns : goal.returns
returns c =
    c.loop-field.invariant ∙ ap (λ fields. modes_of fields) (fields_end c.args.fields.now c.loop-field.field-index (omega arith))
