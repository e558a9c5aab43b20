use Rattle.vector_elements.specs.Numbers.{bytes_in}
use Rattle.predicates.proofs.Governed.{Tells, governed_to}
use Rattle.predicates.proofs.flags.flags_of_each.Given as goal

abbrev pub invariant-loop-i : goal.invariant-loop-i
invariant-loop-i l = Tells (governed_to (bytes_in l.fn.size) l.mask l.results l.i) l.first l.seen l.any l.last
