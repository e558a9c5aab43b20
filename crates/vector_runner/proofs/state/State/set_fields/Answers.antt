use Rattle.std.proofs.Common.{refl, ap, ◌∙◌, arith}
use Rattle.vector_runner.specs.Prepared.{core_in}
use Rattle.vector_runner.specs.State.{with_fields}
use Rattle.vector_runner.proofs.Mapped.{fields_end, state_more}
use Rattle.vector_runner.proofs.state.State.set_fields.Goals as goal

pub loop-field-init : goal.loop-field-init
unfolding with_fields
loop-field-init c = (c.requires.modes, refl)

pub loop-field-preserved : goal.loop-field-preserved
loop-field-preserved c = (
  c.set_field.ensures.modes,
  state_more c.args.fields.now c.loop-field.field-index c.field-item.result c.loop-field-test.true c.field-item.is
      (core_in c.args.self.now) (core_in c.loop-field.self) _ c.loop-field.invariant.1 c.in_ok-set_field.ensures.state,
)

pub returns-clause-state : goal.returns-clause-state
returns-clause-state c =
    c.loop-field.invariant.1
    ∙ ap (λ fields. with_fields (core_in c.args.self.now) fields) (fields_end c.args.fields.now c.loop-field.field-index (omega arith))
