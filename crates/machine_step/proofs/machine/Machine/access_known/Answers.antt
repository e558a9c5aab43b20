use Rattle.std.proofs.Common.{ap, ◌∙◌, arith, Some}
use Rattle.std.specs.Prelude.{◌&&◌, Bool}
use Rattle.plain_lemmas.proofs.Tests.{and-false}
use Rattle.mem_access.specs.Bank.{bank_state}
use Rattle.mem_access.specs.Transfer.{writes_of}
use Rattle.machine_step.specs.ProcessorState.{vector_bytes}
use Rattle.machine_step.specs.Effect.{effect_of}
use Rattle.machine_step.specs.Execution.{effect_of_insn}
use Rattle.machine_step.specs.Machine.{core_of}
use Rattle.machine_step.proofs.Answers.{effect_of_word, needs_of_word, unneeded}
use Rattle.machine_step.proofs.Flats.{access_group, access_apart}
use Rattle.machine_step.proofs.Known.{scalar_row}
use Rattle.machine_step.proofs.Owned.{attempt_keeps}
use Rattle.machine_step.proofs.Steps.{attempted_at, attempts_on}
use Rattle.machine_step.proofs.machine.Machine.access_known.Goals as goal

pub access_at_once-requires-clause-fields : goal.access_at_once-requires-clause-fields
access_at_once-requires-clause-fields c =
    scalar_row c.args.word c.args.insn.now (omega arith) c.requires.means (access_group c.args.insn.now c.requires.access)

pub returns-clause-effect : goal.returns-clause-effect
returns-clause-effect c bank =
    let it = c.args.insn.now in
    attempted_at effect_of (effect_of_insn c.args.word it) c.args.self.now bank c.access_at_once.new.self bank c.access_at_once.result
    (effect_of_word (vector_bytes bank.vectors.vl) (core_of c.args.self.now (bank_state bank)) c.args.word (Some it) c.requires.aligned
    c.requires.fetched c.requires.means)
    (attempts_on (effect_of_insn c.args.word it) c.args.self.now c.access_at_once.new.self bank c.access_at_once.result
    (c.access_at_once.ensures.effect c.args.word))

pub returns-clause-kept : goal.returns-clause-kept
returns-clause-kept c apart bank =
    let s = core_of c.args.self.now bank in
    ap (λ (b : Bool). apart && b) (needs_of_word s c.args.word (Some c.args.insn.now) c.requires.aligned c.requires.fetched c.requires.means
    ∙ unneeded c.args.insn.now s (access_apart c.args.insn.now s.streaming c.requires.access)) ∙ and-false apart

pub returns-clause-owned : goal.returns-clause-owned
returns-clause-owned c =
    attempt_keeps (writes_of c.args.insn.now c.args.self.now.scalars c.args.self.now.pages.memory) c.args.self.now.pages
    c.access_at_once.new.self.pages c.access_at_once.result c.access_at_once.ensures.owned
