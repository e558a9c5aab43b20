use Rattle.tile_ops.proofs.ReadBack.{keeps_elements}
use Rattle.tile_ops.proofs.laws.write_keeps_elements.Goals as goal

pub returns : goal.returns
returns c = keeps_elements
