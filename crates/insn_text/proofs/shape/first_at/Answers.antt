use Rattle.std.proofs.Common.{◌≤◌, length, sym, ◌∙◌, arith}
use Rattle.insn_text.proofs.Steps.{first-none, first-some, first-end}
use Rattle.insn_text.proofs.shape.first_at.Goals as goal

pub loop-index-preserved : goal.loop-index-preserved
loop-index-preserved c =
    c.loop-index.invariant ∙ first-none c.args.word c.args.shapes.now c.args.indices.now c.loop-index.index-index c.loop-index-test.true
    c.in-None.ensures

pub returns-in-Some : goal.returns-in-Some
returns-in-Some c =
    sym (c.loop-index.invariant ∙ first-some c.args.word c.args.shapes.now c.args.indices.now c.loop-index.index-index _
    c.loop-index-test.true c.in-Some.ensures)

pub returns : goal.returns
returns c =
    let le : length c.args.indices.now ≤ c.loop-index.index-index =
    omega arith in sym (c.loop-index.invariant ∙ first-end c.args.word c.args.shapes.now c.args.indices.now c.loop-index.index-index le)
