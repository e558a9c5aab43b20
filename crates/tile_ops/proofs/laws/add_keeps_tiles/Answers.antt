use Rattle.tile_ops.proofs.Summed.{add_keeps_tiles}
use Rattle.tile_ops.proofs.laws.add_keeps_tiles.Goals as goal

pub returns : goal.returns
returns c = add_keeps_tiles
