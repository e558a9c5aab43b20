use Rattle.std.proofs.Common.{◌≡◌, arith, length}
use Rattle.asm_operands.specs.Views.{partial_of}
use Rattle.asm_operands.proofs.TakenTokens.{taken_count-stops, taken_count-goes, taken_count-short, taken_count-end}
use Rattle.asm_operands.proofs.taking.taken_count.Goals as goal

pub returns-then-index-tokens : goal.returns-then-index-tokens
returns-then-index-tokens c =
    taken_count-short c.args.items.now c.args.tokens.now c.loop-index.index _ (partial_of c.loop-index.partial) c.if-index-tokens.true
    c.loop-index.invariant

pub returns-in-None : goal.returns-in-None
returns-in-None c =
    taken_count-stops c.args.items.now c.args.tokens.now c.loop-index.index _ (partial_of c.loop-index.partial) _ _ c.loop-index-test.true
    c.if-index-tokens.false
    c.in-None.ensures c.loop-index.invariant

pub loop-index-preserved : goal.loop-index-preserved
loop-index-preserved c =
    taken_count-goes c.args.items.now c.args.tokens.now c.loop-index.index _ (partial_of c.loop-index.partial) (partial_of c.in-Some.next) _
    _
    c.loop-index-test.true c.if-index-tokens.false c.in-Some.ensures c.loop-index.invariant

pub returns : goal.returns
returns c =
    let e : length c.args.items.now ≡ c.loop-index.index = omega arith in
    taken_count-end c.args.items.now c.args.tokens.now c.loop-index.index _ (partial_of c.loop-index.partial) e c.loop-index.invariant
