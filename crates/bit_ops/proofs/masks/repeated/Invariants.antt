use Rattle.bit_ops.proofs.MaskBits.{IsRun}
use Rattle.bit_ops.proofs.masks.repeated.Given as goal

abbrev pub invariant-loop-log : goal.invariant-loop-log
invariant-loop-log l = IsRun l.length l.ones l.log l.mask
