use Rattle.predicates.proofs.Whole.{HasBitsOfFirst}
use Rattle.predicates.proofs.flags.bits_of_some.Given as goal

abbrev pub invariant-loop-i : goal.invariant-loop-i
invariant-loop-i l = HasBitsOfFirst l.bits l.p l.i
