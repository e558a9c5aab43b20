use Rattle.std.proofs.Common.{◌≤◌, sym, ◌∙◌, arith, length}
use Rattle.asm_operands.specs.Views.{partial_of}
use Rattle.asm_operands.proofs.TakenTokens.{taken-lengths, taken-stops, taken-goes, taken-end}
use Rattle.asm_operands.proofs.taking.taken.Goals as goal

pub returns-then-tokens-items : goal.returns-then-tokens-items
returns-then-tokens-items c = sym (taken-lengths c.args.items.now c.args.tokens.now (partial_of c.args.partial) c.if-tokens-items.true)

pub returns-in-None : goal.returns-in-None
returns-in-None c =
    sym (taken-stops c.args.items.now c.args.tokens.now c.loop-index.index (partial_of c.loop-index.partial) _ _ c.loop-index-test.true
    c.if-tokens-items.false c.in-None.ensures) ∙ c.loop-index.invariant

pub loop-index-preserved : goal.loop-index-preserved
loop-index-preserved c =
    taken-goes c.args.items.now c.args.tokens.now c.loop-index.index (partial_of c.loop-index.partial) (partial_of c.in-Some.next) _ _
    c.loop-index-test.true
    c.if-tokens-items.false c.in-Some.ensures ∙ c.loop-index.invariant

pub returns : goal.returns
returns c =
    let le : length c.args.items.now ≤ c.loop-index.index = omega arith in
    sym (taken-end c.args.items.now c.args.tokens.now c.loop-index.index (partial_of c.loop-index.partial) le c.if-tokens-items.false)
    ∙ c.loop-index.invariant
