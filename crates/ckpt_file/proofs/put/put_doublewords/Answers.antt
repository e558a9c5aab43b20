use Rattle.ckpt_file.proofs.Puts.{put_number}
use Rattle.ckpt_file.proofs.put.put_doublewords.Goals as goal

pub loop-number-preserved : goal.loop-number-preserved
loop-number-preserved c =
    put_number 8 c.args.numbers.now c.loop-number.number-index _ _ _ c.loop-number-test.true c.loop-number.invariant
    c.in_ok-put_doubleword.ensures
