use Rattle.std.proofs.Common.{arith}
use Rattle.paged_memory.proofs.Order.{below_upto, none_below_from}
use Rattle.paged_memory.proofs.page.count_below.Goals as goal

pub loop-low-preserved-then-pages-middle : goal.loop-low-preserved-then-pages-middle
loop-low-preserved-then-pages-middle c = record {
  order = omega arith;
  bound = c.loop-low.invariant.bound;
  below = below_upto c.args.pages.now _ _ c.index-pages-middle.result c.requires (omega arith) c.if-pages-middle.true;
  rest = c.loop-low.invariant.rest;
}

pub loop-low-preserved : goal.loop-low-preserved
loop-low-preserved c = record {
  order = omega arith;
  bound = omega arith;
  below = c.loop-low.invariant.below;
  rest = none_below_from c.args.pages.now _ _ c.index-pages-middle.result c.requires (omega arith) (omega arith);
}
