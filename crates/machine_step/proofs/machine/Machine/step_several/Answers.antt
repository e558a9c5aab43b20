use Rattle.machine_step.proofs.machine.Machine.step_several.Goals as goal

pub returns-then-apart : goal.returns-then-apart
returns-then-apart g c = rw c.if-apart.true c.make_steps.ensures

pub returns-else-apart : goal.returns-else-apart
returns-else-apart g c = rw c.if-apart.false c.make_steps-else-apart.ensures
