use Rattle.std.proofs.Common.{sym, ◌∙◌}
use Rattle.machine_step.specs.Effect.{is_executed, mode_fault}
use Rattle.machine_step.specs.Needs.{uses_bank}
use Rattle.machine_step.specs.Machine.{core_of}
use Rattle.machine_step.proofs.Answers.{unneeded}
use Rattle.machine_step.proofs.Calls.{needs_allowed}
use Rattle.machine_step.proofs.machine.Machine.needs.Goals as goal

pub returns-then-uses_bank : goal.returns-then-uses_bank
returns-then-uses_bank c bank =
    let it = c.args.insn.now in
    let s = core_of c.args.self.now bank in
    c.allows.ensures
    ∙ needs_allowed (is_executed it) (mode_fault it s.streaming s.za_on) (uses_bank it s.streaming)
    (sym c.uses_bank.ensures ∙ c.if-uses_bank.true)

pub returns : goal.returns
returns c bank =
    sym (unneeded c.args.insn.now (core_of c.args.self.now bank) (sym c.uses_bank.ensures ∙ c.if-uses_bank.false))
