use Rattle.std.proofs.Common.{◌<◌, length, arith}
use Rattle.ckpt_file.proofs.Puts.{put_next}
use Rattle.ckpt_file.proofs.write.put_array.Goals as goal

pub loop-n-preserved : goal.loop-n-preserved
loop-n-preserved c =
    let rows = c.args.za.now.vectors in
    let inside : c.loop-n.n < length rows = omega (arith, c.size-n-end.ensures.square.count, c.size-n-end.ensures.value) in
    put_next rows c.loop-n.n c.vector.result.now _ _ _ inside c.vector.ensures.value c.loop-n.invariant c.in_ok-put_field.ensures
