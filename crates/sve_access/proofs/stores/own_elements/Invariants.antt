use Rattle.std.proofs.Common.{◌≡◌}
use Rattle.paged_memory.specs.PageTable.{OwnsAlso, KeepsOwned}
use Rattle.sve_access.specs.Elements.{element_run}
use Rattle.sve_access.proofs.Lists.{of_first}
use Rattle.sve_access.proofs.stores.own_elements.Given as goal

abbrev pub invariant-loop-i : goal.invariant-loop-i
invariant-loop-i l =
    (l.pages.memory ≡ l.fn.pages.memory) × KeepsOwned l.fn.pages l.pages
    × OwnsAlso l.fn.pages l.pages
    (of_first (element_run l.elements.start l.elements.memory) l.elements.element l.elements.pg.now l.i)
