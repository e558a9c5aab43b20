use Rattle.tile_ops.proofs.ReadBack.{reads_written}
use Rattle.tile_ops.proofs.laws.written_slice_is_read.Goals as goal

pub returns : goal.returns
returns c = reads_written
