use Rattle.std.proofs.Common.{◌≡◌, ◌∙◌, ap, subst, ℕ, Option}
use Rattle.sm_types.specs.declared.scalars.Scalars.{Scalars}
use Rattle.scalar_exec.specs.Apart.{at_distance}
use Rattle.scalar_exec.specs.Flat.{StepsFlat}
use Rattle.scalar_exec.specs.Step.{scalar_step}
use Rattle.machine_step.proofs.Known.{scalar_row}
use Rattle.machine_step.proofs.Flats.{flat_row, flat_stays, scalar_group, scalar_by_flat}
use Rattle.machine_step.proofs.decoder.Decoded.compute_at.Goals as goal

pub exec_at-requires : goal.exec_at-requires
exec_at-requires c =
    let k = c.args.self.now in
    flat_row k.flat k.word k.insn c.requires k.known k.flattened

pub exec_group_at-requires-clause-ranges : goal.exec_group_at-requires-clause-ranges
exec_group_at-requires-clause-ranges c =
    let k = c.args.self.now in
    scalar_row k.word k.insn c.requires k.known
    (scalar_group k.insn (scalar_by_flat k.flat k.insn c.in-Scalar.is k.flattened))
