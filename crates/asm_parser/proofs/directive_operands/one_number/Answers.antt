use Rattle.std.proofs.Common.{◌∙◌}
use Rattle.std.proofs.lemmas.Result.{err_from_is_err_and}
use Rattle.asm_parser.specs.Lines.{ends, one_number}
use Rattle.asm_parser.specs.Told.{said_from}
use Rattle.asm_parser.proofs.Saying.{number-empty, number-bad, number-some, ends-ok, ends-err, passes_on}
use Rattle.asm_parser.proofs.directive_operands.one_number.Goals as goal

pub returns-in_err-expect_end-in-Some-number_up_to-clause-said : goal.returns-in_err-expect_end-in-Some-number_up_to-clause-said
returns-in_err-expect_end-in-Some-number_up_to-clause-said c =
    let text = c.args.text.now in
    let l = c.in-Some.lexeme in
    let n = c.in-Some-number_up_to.number in
    let p = err_from_is_err_and c.from_residual.result c.from_residual.ensures.1 in
    rw (p.1, p.2)
    (passes_on (said_from (ends (tt {0})) text l.end) (said_from (one_number c.args.most) text c.args.offset)
    c.in_err-expect_end-in-Some-number_up_to.field-0.0
    (λ s e. number-some c.args.most text c.args.offset l n c.in-Some.ensures.first c.in-Some-number_up_to.ensures.value
    ∙ ends-err (tt {0}) n text l.end s e)
    c.in_err-expect_end-in-Some-number_up_to.ensures.said)

pub returns-in-None-clause-said : goal.returns-in-None-clause-said
returns-in-None-clause-said c = number-empty c.args.most c.args.text.now c.args.offset c.in-None.ensures.first

pub returns-in-None-number_up_to-clause-said : goal.returns-in-None-number_up_to-clause-said
returns-in-None-number_up_to-clause-said c =
    rw c.no_number.ensures (number-bad c.args.most c.args.text.now c.args.offset c.in-Some.lexeme c.in-Some.ensures.first
    c.in-None-number_up_to.ensures.value)

pub returns-in_ok-expect_end-in-Some-number_up_to-clause-said : goal.returns-in_ok-expect_end-in-Some-number_up_to-clause-said
returns-in_ok-expect_end-in-Some-number_up_to-clause-said c =
    let text = c.args.text.now in
    let l = c.in-Some.lexeme in
    let n = c.in-Some-number_up_to.number in
    number-some c.args.most text c.args.offset l n c.in-Some.ensures.first c.in-Some-number_up_to.ensures.value
    ∙ ends-ok (tt {0}) n text l.end c.in_ok-expect_end-in-Some-number_up_to.ensures.said
