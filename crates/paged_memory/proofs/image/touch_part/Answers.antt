use Rattle.std.proofs.Common.{arith}
use Rattle.paged_memory.proofs.Touch.{touched_none, touched_more}
use Rattle.paged_memory.proofs.image.touch_part.Goals as goal

pub loop-n-init : goal.loop-n-init
loop-n-init c = record { fine = c.requires.fine; zero = c.requires.zero; own = c.requires.own; flags = λ q. touched_none _ q _ _ }

pub loop-n-preserved : goal.loop-n-preserved
loop-n-preserved c = record {
  fine = c.in_ok-touch.ensures.fine;
  zero = c.in_ok-touch.ensures.zero;
  own = c.in_ok-touch.ensures.own;
  flags = λ q. touched_more _ c.loop-n.n q _ _ _ _ (omega arith) (c.loop-n.invariant.flags q) (c.in_ok-touch.ensures.flags q);
}
