use Rattle.std.proofs.Common.{refl, ap}
use Rattle.sm_types.specs.declared.insn.Insn.TheVariants as insn
use Rattle.scalar_exec.specs.Registers.{past}
use Rattle.scalar_exec.specs.Step.{scalar_step}
use Rattle.scalar_exec.proofs.AnyPc.{steps_apart}
use Rattle.scalar_exec.proofs.apart.step_one_source.Goals as goal

pub returns : goal.returns
unfolding scalar_step
returns c base =
    steps_apart (insn.OneSource c.args.x.now) base c.args.at _ c.args.s.now _ refl c.next_address.ensures
    (ap past c.exec_one_source.ensures.value)
