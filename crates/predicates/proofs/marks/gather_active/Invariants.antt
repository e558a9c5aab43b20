use Rattle.predicates.proofs.Gathered.{AreGatheredTo}
use Rattle.predicates.proofs.marks.gather_active.Given as goal

abbrev pub invariant-loop-i : goal.invariant-loop-i
invariant-loop-i l = AreGatheredTo l.fn.size l.marks l.pg l.pd l.i
