use Rattle.std.proofs.Common.{◌≤◌, ◌+◌, drop, arith, length, max, ap, ◌∙◌}
use Rattle.asm_operands.specs.Operands.{furthest}
use Rattle.asm_operands.proofs.ShapeSteps.{furthest-step, furthest-end}
use Rattle.asm_operands.proofs.faults.furthest.Goals as goal

pub loop-shape-preserved : goal.loop-shape-preserved
loop-shape-preserved c =
    ap (λ n. max n (furthest (drop (c.loop-shape.shape-index + 1) c.args.shapes.now) c.args.tokens.now)) c.max-most.ensures
    ∙ furthest-step c.args.shapes.now c.args.tokens.now c.loop-shape.shape-index c.loop-shape.most c.taken_count_in.result _ _
    c.loop-shape-test.true c.taken_count_in.ensures c.loop-shape.invariant

pub returns : goal.returns
returns c =
    let le : length c.args.shapes.now ≤ c.loop-shape.shape-index = omega arith in
    furthest-end c.args.shapes.now c.args.tokens.now c.loop-shape.shape-index c.loop-shape.most _ le c.loop-shape.invariant
