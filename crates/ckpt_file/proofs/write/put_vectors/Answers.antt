use Rattle.std.proofs.Common.{◌<◌, length, arith}
use Rattle.ckpt_file.proofs.Puts.{put_next}
use Rattle.ckpt_file.proofs.write.put_vectors.Goals as goal

pub loop-n-preserved : goal.loop-n-preserved
loop-n-preserved c =
    let rows = c.args.vectors.now.registers.vectors in
    let inside : c.loop-n.n < length rows = omega (arith, c.length-length.ensures.registers.vector_count) in
    put_next rows c.loop-n.n c.z.result.now _ _ _ inside c.z.ensures.value c.loop-n.invariant c.in_ok-put_field.ensures
