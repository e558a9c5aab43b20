use Rattle.std.proofs.Common.{◌≤◌, length, sym, ◌∙◌, arith}
use Rattle.asm_tokens.proofs.Steps.{hash-more, hash-end}
use Rattle.asm_tokens.proofs.names.hash.Goals as goal

pub loop-offset-preserved : goal.loop-offset-preserved
loop-offset-preserved c = record {
  way = sym (hash-more c.args.factor c.args.size c.loop-offset.hash c.args.text.now c.loop-offset.offset c.loop-offset-test.true)
      ∙ c.loop-offset.invariant.way;
  below = omega arith;
}

pub returns : goal.returns
returns c =
    let le : length c.args.text.now ≤ c.loop-offset.offset = omega arith in
    record {
      value =
          sym (hash-end c.args.factor c.args.size c.loop-offset.hash c.args.text.now c.loop-offset.offset le) ∙ c.loop-offset.invariant.way;
      small = c.loop-offset.invariant.below;
    }
