use Rattle.machine_step.proofs.machine.Machine.scalars_at_once.Goals as goal

pub returns-in_default-clause-effect : goal.returns-in_default-clause-effect
returns-in_default-clause-effect c word vl bank = c.execute_scalar.ensures.effect word vl bank
