use Rattle.std.proofs.Common.{◌≡◌, ◌≤◌}
use Rattle.vector_elements.specs.Numbers.{bytes_in}
use Rattle.predicates.specs.Loops.{true_count}
use Rattle.predicates.proofs.Governed.{governed_to}
use Rattle.predicates.proofs.count_active.active_count.Given as goal

abbrev pub invariant-loop-i : goal.invariant-loop-i
invariant-loop-i l = (l.count ≡ true_count (governed_to (bytes_in l.fn.size) l.pg l.pn l.i)) × (l.count ≤ l.i)
