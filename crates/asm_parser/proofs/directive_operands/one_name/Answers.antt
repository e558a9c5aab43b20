use Rattle.std.proofs.Common.{◌∙◌}
use Rattle.std.proofs.lemmas.Result.{err_from_is_err_and}
use Rattle.asm_parser.specs.Lines.{ends, one_name, text_of_lexeme}
use Rattle.asm_parser.specs.Told.{said_from}
use Rattle.asm_parser.proofs.Saying.{name-empty, name-bad, name-some, ends-ok, ends-err, passes_on}
use Rattle.asm_parser.proofs.directive_operands.one_name.Goals as goal

pub returns-then-not-is_name-clause-said : goal.returns-then-not-is_name-clause-said
returns-then-not-is_name-clause-said c =
    name-bad c.args.line.now c.args.text.now c.args.offset c.in-Some.lexeme c.in-Some.ensures.first c.if-not-is_name.ensures

pub returns-in_err-expect_end-in-Some-clause-said : goal.returns-in_err-expect_end-in-Some-clause-said
returns-in_err-expect_end-in-Some-clause-said c =
    let text = c.args.text.now in
    let l = c.in-Some.lexeme in
    let p = err_from_is_err_and c.from_residual.result c.from_residual.ensures.1 in
    rw (p.1, p.2)
    (passes_on (said_from (ends (tt {0})) text l.end) (said_from (one_name c.args.line.now) text c.args.offset)
    c.in_err-expect_end-in-Some.field-0.0
    (λ s e. name-some c.args.line.now text c.args.offset l c.in-Some.ensures.first c.if-not-is_name.ensures
    ∙ ends-err (tt {0}) (text_of_lexeme c.args.line.now l) text l.end s e)
    c.in_err-expect_end-in-Some.ensures.said)

pub returns-in-None-clause-said : goal.returns-in-None-clause-said
returns-in-None-clause-said c = name-empty c.args.line.now c.args.text.now c.args.offset c.in-None.ensures.first

pub returns-in_ok-expect_end-in-Some-clause-said : goal.returns-in_ok-expect_end-in-Some-clause-said
unfolding text_of_lexeme
returns-in_ok-expect_end-in-Some-clause-said c =
    let text = c.args.text.now in
    let l = c.in-Some.lexeme in
    name-some c.args.line.now text c.args.offset l c.in-Some.ensures.first c.if-not-is_name.ensures
    ∙ ends-ok (tt {0}) (text_of_lexeme c.args.line.now l) text l.end c.in_ok-expect_end-in-Some.ensures.said
