use Rattle.std.proofs.Common.{arith}
use Rattle.std.specs.List.{concat}
use Rattle.signal_frames.proofs.Putting.{puts_none, puts_row, puts_all}
use Rattle.signal_frames.proofs.writing.put_array.Goals as goal

pub loop-n-init : goal.loop-n-init
loop-n-init c = puts_none c.args.pages.now c.args.address (omega arith)

pub loop-n-preserved : goal.loop-n-preserved
loop-n-preserved c =
    puts_row c.args.pages.now c.loop-n.pages c.put-next.new.pages c.args.address c.loop-n.next c.put-next.result c.loop-n.n
    c.args.za.now.vectors c.vector.result.now
    (omega (arith, c.loop-n-test.true, c.size-n-end.ensures.square.count, c.size-n-end.ensures.value)) c.vector.ensures.value
    c.loop-n.invariant c.put-next.ensures

pub returns : goal.returns
returns c =
    puts_all c.args.pages.now c.loop-n.pages c.args.address c.loop-n.next c.loop-n.n concat c.args.za.now.vectors
    (omega (arith, c.size-n-end.ensures.square.count, c.size-n-end.ensures.value)) c.loop-n.invariant
