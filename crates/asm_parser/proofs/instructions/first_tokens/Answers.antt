use Rattle.std.proofs.Common.{arith}
use Rattle.asm_parser.proofs.Operands.{tokens-more}
use Rattle.asm_parser.proofs.instructions.first_tokens.Goals as goal

pub loop-count-preserved : goal.loop-count-preserved
loop-count-preserved c = record {
  so_far =
      tokens-more c.args.text.now c.loop-count.from c.loop-count.count 24 c.loop-count.tokens.items c.push.new.self.items _ c.in-Some.lexeme
      c.loop-count-test.true c.in-Some.ensures.first c.loop-count.invariant.so_far c.push.ensures.items;
  taken = (let e = c.push.ensures.len in let f = c.loop-count.invariant.taken in omega arith);
  within = c.in-Some.ensures.within;
}
