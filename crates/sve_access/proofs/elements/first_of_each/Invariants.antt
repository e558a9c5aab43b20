use Rattle.std.proofs.Common.{◌≡◌}
use Rattle.std.specs.List.{find}
use Rattle.sve_access.specs.Elements.{element_run}
use Rattle.sve_access.proofs.Lists.{of_first}
use Rattle.sve_access.proofs.elements.first_of_each.Given as goal

abbrev pub invariant-loop-i : goal.invariant-loop-i
invariant-loop-i g l =
    l.found ≡ find (g.C.Check.fails l.check) (of_first (element_run l.elements.start l.elements.memory) l.elements.element
    l.elements.pg.now l.i)
