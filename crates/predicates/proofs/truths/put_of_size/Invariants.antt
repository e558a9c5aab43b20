use Rattle.vector_elements.specs.Numbers.{bytes_in}
use Rattle.predicates.proofs.Bits.{IsPredicateTo}
use Rattle.predicates.proofs.truths.put_of_size.Given as goal

abbrev pub invariant-loop-i : goal.invariant-loop-i
invariant-loop-i g l = IsPredicateTo (bytes_in l.fn.size) l.i (g.T.Truth.gives l.truth l.fn.size) l.pd
