use Rattle.std.proofs.Common.{◌≤◌, sym, ◌∙◌, arith, length}
use Rattle.asm_operands.proofs.ShapeSteps.{first-none, first-some, first-end, target-none, target-some, target-is}
use Rattle.asm_operands.proofs.reading.first_said.Goals as goal

pub returns-in-Some-clause-word : goal.returns-in-Some-clause-word
returns-in-Some-clause-word c =
    first-some c.args.shapes.now c.args.tokens.now c.loop-shape.shape-index c.in-Some.word _ c.loop-shape-test.true c.in-Some.ensures
    ∙ c.loop-shape.invariant.words

pub returns-in-Some-clause-target : goal.returns-in-Some-clause-target
returns-in-Some-clause-target c =
    target-is _ c.items_of.result.now c.args.tokens.now _ c.items_of.ensures.value c.target_in.ensures
    ∙ target-some c.args.shapes.now c.args.tokens.now c.loop-shape.shape-index c.in-Some.word _ c.loop-shape-test.true c.in-Some.ensures
    ∙ c.loop-shape.invariant.targets

pub loop-shape-preserved : goal.loop-shape-preserved
loop-shape-preserved c =
    let e = c.in-None.ensures in
    record {
      words =
          first-none c.args.shapes.now c.args.tokens.now c.loop-shape.shape-index _ c.loop-shape-test.true e ∙ c.loop-shape.invariant.words;
      targets =
          target-none c.args.shapes.now c.args.tokens.now c.loop-shape.shape-index _ c.loop-shape-test.true e
          ∙ c.loop-shape.invariant.targets;
    }

pub returns-clause-word : goal.returns-clause-word
returns-clause-word c =
    let le : length c.args.shapes.now ≤ c.loop-shape.shape-index = omega arith in
    sym (first-end c.args.shapes.now c.args.tokens.now c.loop-shape.shape-index le) ∙ c.loop-shape.invariant.words
