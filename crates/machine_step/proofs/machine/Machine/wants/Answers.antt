use Rattle.std.proofs.Common.{◌∙◌}
use Rattle.machine_step.specs.Execution.{needs_of_insn}
use Rattle.machine_step.specs.Machine.{core_of}
use Rattle.machine_step.proofs.Calls.{and_true}
use Rattle.machine_step.proofs.machine.Machine.wants.Goals as goal

pub returns-then-apart : goal.returns-then-apart
returns-then-apart c bank =
    c.needs.ensures bank ∙ and_true c.args.apart (needs_of_insn c.args.insn.now (core_of c.args.self.now bank)) c.if-apart.true
