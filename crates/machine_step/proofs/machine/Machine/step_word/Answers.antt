use Rattle.std.proofs.Common.{sym, ap, ◌∙◌, Some}
use Rattle.std.specs.Prelude.{◌&&◌}
use Rattle.mem_access.specs.Bank.{bank_state}
use Rattle.machine_step.specs.ProcessorState.{vector_bytes}
use Rattle.machine_step.specs.Effect.{effect_of}
use Rattle.machine_step.specs.Execution.{effect_of_insn}
use Rattle.machine_step.specs.Machine.{core_of}
use Rattle.machine_step.proofs.Answers.{effect_of_word, needs_of_word}
use Rattle.machine_step.proofs.Steps.{attempted_at}
use Rattle.machine_step.proofs.Owned.{attempt_keeps}
use Rattle.machine_step.specs.Owned.{writes_on}
use Rattle.machine_step.proofs.machine.Machine.step_word.Goals as goal

pub returns-clause-effect : goal.returns-clause-effect
returns-clause-effect c =
    attempted_at effect_of (effect_of_insn c.args.word c.in-Some.insn.now) c.args.self.now c.args.bank.now c.execute_at_once.new.self
    c.execute_at_once.new.bank c.execute_at_once.result
    (effect_of_word (vector_bytes c.args.bank.now.vectors.vl) (core_of c.args.self.now (bank_state c.args.bank.now)) c.args.word
    (Some c.in-Some.insn.now) c.requires.aligned c.requires.fetched c.in-Some.ensures)
    c.execute_at_once.ensures.effect

pub returns-clause-kept : goal.returns-clause-kept
returns-clause-kept c done =
    let s = core_of c.args.self.now (bank_state c.args.bank.now) in
    ap (λ b. c.args.apart && b) (needs_of_word s c.args.word (Some c.in-Some.insn.now) c.requires.aligned c.requires.fetched c.in-Some.ensures)
    ∙ sym (c.wants.ensures (bank_state c.args.bank.now)) ∙ c.if-wants.false

pub returns-clause-owned : goal.returns-clause-owned
returns-clause-owned c =
    attempt_keeps (writes_on c.args.self.now c.args.bank.now c.in-Some.insn.now) c.args.self.now.pages c.execute_at_once.new.self.pages
    c.execute_at_once.result c.execute_at_once.ensures.owned
