use Rattle.asm_parser.proofs.Saying.{values-empty, values-bad, values-some}
use Rattle.asm_parser.proofs.directive_operands.value_at.Goals as goal

pub returns-in-None-clause-err : goal.returns-in-None-clause-err
returns-in-None-clause-err g c = values-empty (g.T.Listed.value_in c.args.line.now) c.args.text.now c.args.offset c.in-None.ensures.first

pub returns-in-None-value_in-clause-err : goal.returns-in-None-value_in-clause-err
returns-in-None-value_in-clause-err g c =
    rw c.no_number.ensures (values-bad (g.T.Listed.value_in c.args.line.now) c.args.text.now c.args.offset c.in-Some.lexeme
    c.in-Some.ensures.first c.in-None-value_in.ensures)

pub returns-in-Some-value_in-clause-ok : goal.returns-in-Some-value_in-clause-ok
returns-in-Some-value_in-clause-ok g c =
    values-some (g.T.Listed.value_in c.args.line.now) c.args.text.now c.args.offset c.in-Some.lexeme
    (g.T.Listed.seen c.in-Some-value_in.value)
    c.in-Some.ensures.first c.in-Some-value_in.ensures
