use Rattle.std.proofs.Common.{sym, ◌∙◌, arith}
use Rattle.machine_step.specs.Execution.{effect_of_insn}
use Rattle.machine_step.proofs.Answers.{scalar_room}
use Rattle.machine_step.proofs.Known.{scalar_row, vector_row}
use Rattle.machine_step.proofs.Owned.{attempt_as, scalar_writes}
use Rattle.machine_step.proofs.Steps.{attempts_on}
use Rattle.machine_step.proofs.machine.Machine.execute_at_once.Goals as goal

pub vectors_at_once-requires-clause-fields : goal.vectors_at_once-requires-clause-fields
vectors_at_once-requires-clause-fields c =
    vector_row c.args.word c.args.insn.now (omega arith) c.requires.means (sym c.is_vector.ensures ∙ c.if-is_vector.true)

pub scalars_at_once-requires : goal.scalars_at_once-requires
scalars_at_once-requires c =
    scalar_row c.args.word c.args.insn.now (omega arith) c.requires.means (sym c.is_vector.ensures ∙ c.if-is_vector.false)

pub returns-then-is_vector-clause-effect : goal.returns-then-is_vector-clause-effect
returns-then-is_vector-clause-effect c = c.vectors_at_once.ensures.effect c.args.word

pub returns-else-is_vector-clause-effect : goal.returns-else-is_vector-clause-effect
returns-else-is_vector-clause-effect c =
    attempts_on (effect_of_insn c.args.word c.args.insn.now) c.args.self.now c.scalars_at_once.new.self c.args.bank.now
    c.scalars_at_once.result (c.scalars_at_once.ensures.effect c.args.word)

pub returns-else-is_vector-clause-room : goal.returns-else-is_vector-clause-room
returns-else-is_vector-clause-room c room =
    let row = scalar_row c.args.word c.args.insn.now (omega arith) c.requires.means (sym c.is_vector.ensures ∙ c.if-is_vector.false) in
    c.scalars_at_once.ensures.room (scalar_room c.args.self.now c.args.bank.now c.args.insn.now row room)

pub returns-else-is_vector-clause-owned : goal.returns-else-is_vector-clause-owned
returns-else-is_vector-clause-owned c =
    let row = scalar_row c.args.word c.args.insn.now (omega arith) c.requires.means (sym c.is_vector.ensures ∙ c.if-is_vector.false) in
    attempt_as _ _ _ _ _ (scalar_writes c.args.self.now c.args.bank.now c.args.insn.now row) c.scalars_at_once.ensures.owned
