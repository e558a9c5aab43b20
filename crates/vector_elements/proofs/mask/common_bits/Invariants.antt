use Rattle.vector_elements.proofs.Full.{HasBitsTo}
use Rattle.vector_elements.proofs.mask.common_bits.Given as goal

abbrev pub invariant-loop-i : goal.invariant-loop-i
invariant-loop-i l = HasBitsTo l.bits l.p l.i
