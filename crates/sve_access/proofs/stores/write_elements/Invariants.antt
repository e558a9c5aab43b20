use Rattle.std.proofs.Common.{◌≡◌, Some, []}
use Rattle.paged_memory.specs.PageTable.{OwnsAlso}
use Rattle.mem_access.specs.Transfer.{written}
use Rattle.sve_access.specs.Elements.{element_run, low_bytes}
use Rattle.sve_access.proofs.Lists.{of_first}
use Rattle.sve_access.proofs.stores.write_elements.Given as goal

abbrev pub invariant-loop-i : goal.invariant-loop-i
invariant-loop-i l =
    (l.pages.memory ≡ written l.fn.pages.memory
    (of_first (element_run l.elements.start l.elements.memory) l.elements.element l.elements.pg.now l.i)
    (Some (of_first (low_bytes l.z l.elements.memory l.elements.element) l.elements.element l.elements.pg.now l.i)))
    × OwnsAlso l.fn.pages l.pages []
