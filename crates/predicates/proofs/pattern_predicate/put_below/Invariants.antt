use Rattle.predicates.proofs.Below.{AreBelow}
use Rattle.predicates.proofs.pattern_predicate.put_below.Given as goal

abbrev pub invariant-loop-i : goal.invariant-loop-i
invariant-loop-i l = AreBelow l.fn.size l.end l.pd l.i
