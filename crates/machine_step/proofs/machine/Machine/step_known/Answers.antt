use Rattle.std.proofs.Common.{sym, ap, ◌∙◌, Some}
use Rattle.std.specs.Prelude.{◌≡◌, ◌&&◌}
use Rattle.a64_encode.specs.Either.{instruction_of}
use Rattle.paged_memory.specs.Memory.{word_at}
use Rattle.mem_access.specs.Bank.{bank_state}
use Rattle.machine_step.specs.ProcessorState.{vector_bytes}
use Rattle.machine_step.specs.Effect.{effect_of}
use Rattle.machine_step.specs.Execution.{effect_of_insn}
use Rattle.machine_step.specs.Machine.{core_of}
use Rattle.machine_step.proofs.Answers.{effect_of_word, needs_of_word}
use Rattle.machine_step.proofs.Steps.{attempted_at}
use Rattle.machine_step.proofs.Owned.{attempt_keeps}
use Rattle.machine_step.specs.Owned.{writes_on}
use Rattle.machine_step.proofs.machine.Machine.step_known.Goals as goal

pub returns-clause-effect : goal.returns-clause-effect
returns-clause-effect c =
    let word = c.word.result in
    let it = c.insn-insn.result.now in
    let fetched : word_at c.args.self.now.pages.memory c.args.self.now.scalars.pc ≡ Some word =
    c.requires.fetched ∙ ap Some (sym c.word.ensures) in
    let means : instruction_of word ≡ Some it = ap instruction_of c.word.ensures ∙ c.args.known.now.known
    ∙ ap Some (sym c.insn-insn.ensures) in
    attempted_at effect_of (effect_of_insn word it) c.args.self.now c.args.bank.now c.attempt.new.self
    c.attempt.new.bank c.attempt.result
    (effect_of_word (vector_bytes c.args.bank.now.vectors.vl) (core_of c.args.self.now (bank_state c.args.bank.now)) word
    (Some it) c.requires.aligned fetched means)
    c.attempt.ensures.effect

pub returns-clause-kept : goal.returns-clause-kept
returns-clause-kept c done =
    let s = core_of c.args.self.now (bank_state c.args.bank.now) in
    let word = c.word.result in
    let it = c.insn-insn.result.now in
    let fetched : word_at c.args.self.now.pages.memory c.args.self.now.scalars.pc ≡ Some word =
    c.requires.fetched ∙ ap Some (sym c.word.ensures) in
    let means : instruction_of word ≡ Some it = ap instruction_of c.word.ensures ∙ c.args.known.now.known
    ∙ ap Some (sym c.insn-insn.ensures) in
    ap (λ b. c.args.apart && b) (needs_of_word s word (Some it) c.requires.aligned fetched means)
    ∙ sym (c.wants.ensures (bank_state c.args.bank.now)) ∙ c.if-wants.false

pub returns-clause-owned : goal.returns-clause-owned
returns-clause-owned c =
    attempt_keeps (writes_on c.args.self.now c.args.bank.now c.insn-insn.result.now) c.args.self.now.pages c.attempt.new.self.pages
    c.attempt.result c.attempt.ensures.owned
