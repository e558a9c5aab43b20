use Rattle.std.proofs.Common.{arith, length, ◌∙◌, ◌≡◌}
use Rattle.asm_tokens.specs.Characters.{is_digit}
use Rattle.asm_tokens.proofs.Steps.{front-more, front-stop, front-end}
use Rattle.asm_tokens.proofs.characters.digits_end.Goals as goal

pub loop-end-preserved : goal.loop-end-preserved
loop-end-preserved c =
    front-more is_digit c.args.text.now c.loop-end.end _ c.loop-end-test.true c.if-not-is_digit.ensures c.loop-end.invariant

pub returns-then-not-is_digit-clause-value : goal.returns-then-not-is_digit-clause-value
returns-then-not-is_digit-clause-value c =
    front-stop is_digit c.args.text.now c.loop-end.end _ c.loop-end-test.true c.if-not-is_digit.ensures c.loop-end.invariant

pub returns-clause-value : goal.returns-clause-value
returns-clause-value c =
    let e : length c.args.text.now ≡ c.loop-end.end =
    omega arith in e ∙ front-end is_digit c.args.text.now c.loop-end.end _ (omega arith) c.loop-end.invariant
