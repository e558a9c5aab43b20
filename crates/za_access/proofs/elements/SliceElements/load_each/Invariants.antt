use Rattle.tile_ops.proofs.Filled.{IsFilledTo}
use Rattle.tile_ops.specs.Named.{element_size}
use Rattle.za_access.specs.Slices.{loaded_element}
use Rattle.za_access.proofs.elements.SliceElements.load_each.Given as goal

abbrev pub invariant-loop-i : goal.invariant-loop-i
invariant-loop-i l =
    IsFilledTo (element_size l.self.size) (loaded_element l.self.start (element_size l.self.size) l.self.pg.now l.pages.memory)
    l.fn.slice l.slice l.i
