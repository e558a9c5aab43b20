use Rattle.za_array.specs.Tiles.{tile_element}
use Rattle.tile_ops.proofs.Filled.{IsFilledTo}
use Rattle.tile_ops.proofs.slices.read_column.Given as goal

abbrev pub invariant-loop-r : goal.invariant-loop-r
invariant-loop-r l =
    IsFilledTo l.slice.bytes (λ r. tile_element l.slice.bytes l.slice.tile l.za.vectors r l.slice.number) l.fn.into l.into l.r
