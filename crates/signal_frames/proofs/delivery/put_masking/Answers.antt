use Rattle.std.proofs.Common.{arith}
use Rattle.signal_frames.proofs.Putting.{puts_both, puts_none}
use Rattle.signal_frames.proofs.Lengths.{length-masking}
use Rattle.signal_frames.proofs.delivery.put_masking.Goals as goal

pub returns-in-One-clause-part : goal.returns-in-One-clause-part
returns-in-One-clause-part c =
    rw c.in-One.is (puts_none c.args.pages.now c.args.address (omega arith))

pub returns-in-Two-clause-part : goal.returns-in-Two-clause-part
returns-in-Two-clause-part c =
    rw c.in-Two.is (puts_both _ _ _ _ _ _ _ _ c.put_doublewords-depth.ensures c.put_words.ensures)

pub returns-in-One-clause-long : goal.returns-in-One-clause-long
returns-in-One-clause-long c = length-masking c.args.version c.args.masking

pub returns-in-Two-clause-long : goal.returns-in-Two-clause-long
returns-in-Two-clause-long c = length-masking c.args.version c.args.masking
