use Rattle.tile_ops.proofs.Summed.{adds_at_places}
use Rattle.tile_ops.proofs.laws.add_is_at_active_places.Goals as goal

pub returns : goal.returns
returns c = adds_at_places
