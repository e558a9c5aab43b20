use Rattle.std.proofs.Common.{◌≡◌, ◌<◌, map}
use Rattle.vector_elements.specs.Elements.{element_of}
use Rattle.vector_elements.specs.Numbers.{bytes_in, range_of}
use Rattle.sve_perm.specs.Active.{active_places}
use Rattle.sve_perm.proofs.reductions.reduce_marked.Given as goal

abbrev pub invariant-loop-i : goal.invariant-loop-i
invariant-loop-i g l =
    (l.total ≡ g.R.Reduction.gives l.fn.reduction l.fn.size (map (element_of (bytes_in l.fn.size) l.n) (active_places l.fn.size l.pg l.i)))
    × (l.total < range_of (g.R.Reduction.wide l.fn.reduction l.fn.size))
