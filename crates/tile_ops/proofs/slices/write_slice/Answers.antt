use Rattle.std.proofs.Common.{◌<◌, arith}
use Rattle.sve_vectors.specs.Lengths.{vector_bytes}
use Rattle.tile_ops.proofs.Filled.{within, whole_within}
use Rattle.tile_ops.proofs.slices.write_slice.Goals as goal

pub change_tile-requires-clause-can : goal.change_tile-requires-clause-can
change_tile-requires-clause-can c = λ r begins.
    let size = vector_bytes c.args.za.now.svl in
    let h = c.requires.slice in
    let some : 0 < c.args.slice.bytes = omega (arith, h.tile) in
    let row = whole_within size c.args.slice.bytes r some h.whole begins in
    (within size c.args.slice.bytes c.args.slice.number h.number, omega (arith, row, c.requires.long))
