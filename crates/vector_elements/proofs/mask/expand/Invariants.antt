use Rattle.std.proofs.Common.{◌*◌}
use Rattle.vector_elements.proofs.Masks.{IsMaskTo}
use Rattle.vector_elements.proofs.mask.expand.Given as goal

abbrev pub invariant-loop-i : goal.invariant-loop-i
invariant-loop-i l = IsMaskTo (8 * l.i) l.p l.mask
