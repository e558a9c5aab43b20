use Rattle.std.proofs.Common.{◌*◌}
use Rattle.vector_elements.specs.Numbers.{bytes_in}
use Rattle.sve_perm.proofs.Pairs.{IsWrittenTo}
use Rattle.sve_perm.proofs.by_place.put_pairs_of.Given as goal

abbrev pub invariant-loop-i : goal.invariant-loop-i
invariant-loop-i g l = IsWrittenTo (bytes_in l.size) (g.P.Places.gives l.places l.size) l.fn.d l.d (2 * l.i)
