use Rattle.std.proofs.Common.{◌≡◌}
use Rattle.za_array.proofs.Places.{begun_tile}
use Rattle.za_array.proofs.tiles.change_tile.Given as goal

abbrev pub invariant-loop-r : goal.invariant-loop-r
invariant-loop-r g l =
    l.za ≡ record l.fn.za { vectors = begun_tile l.bytes l.tile (g.C.RowChange.gives l.change) l.fn.za.vectors l.r }
