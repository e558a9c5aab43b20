use Rattle.vector_elements.proofs.Sixteen.{bytes_read}
use Rattle.vector_elements.proofs.lanes.byte_lanes.Goals as goal

pub returns : goal.returns
returns c = bytes_read c.args.bytes.now c.args.i c.requires
