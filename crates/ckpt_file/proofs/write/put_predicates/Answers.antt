use Rattle.std.proofs.Common.{◌<◌, length, arith}
use Rattle.ckpt_file.proofs.Puts.{put_predicate}
use Rattle.ckpt_file.proofs.write.put_predicates.Goals as goal

pub loop-n-preserved : goal.loop-n-preserved
loop-n-preserved c =
    let ps = c.args.vectors.now.registers.predicates in
    let inside : c.loop-n.n < length ps = omega (arith, c.length-length.ensures.registers.predicate_count) in
    put_predicate ps c.loop-n.n c.read_p.result.now _ _ _ inside c.read_p.ensures.value c.loop-n.invariant c.in_ok-put_field.ensures
