use Rattle.tile_ops.proofs.ReadBack.{keeps_tiles}
use Rattle.tile_ops.proofs.laws.write_keeps_tiles.Goals as goal

pub returns : goal.returns
returns c = keeps_tiles
