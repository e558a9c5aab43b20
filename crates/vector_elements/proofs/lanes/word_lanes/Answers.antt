use Rattle.vector_elements.specs.declared.size.Size.TheVariants.{S}
use Rattle.vector_elements.proofs.Sixteen.{lanes_read}
use Rattle.vector_elements.proofs.lanes.word_lanes.Goals as goal

pub returns : goal.returns
returns c = lanes_read S c.args.bytes.now c.args.i c.type_inv.bytes
