use Rattle.std.proofs.Common.{◌∙◌}
use Rattle.tile_ops.proofs.ReadBack.{row_read}
use Rattle.tile_ops.proofs.slices.read_row.Goals as goal

pub returns : goal.returns
returns c =
    c.copy_from_slice.ensures.after ∙ c.vector.ensures.value
    ∙ row_read _ c.args.slice c.args.za.now.vectors c.size-size.ensures.square c.requires.slice
