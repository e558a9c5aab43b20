use Rattle.tile_ops.proofs.Joined.{merges_elements}
use Rattle.tile_ops.proofs.laws.merge_gives_elements.Goals as goal

pub returns : goal.returns
returns c = merges_elements
