use Rattle.vector_elements.specs.declared.size.Size.TheVariants.{D}
use Rattle.vector_elements.proofs.Sixteen.{lanes_read}
use Rattle.vector_elements.proofs.lanes.doubleword_lanes.Goals as goal

pub returns : goal.returns
returns c = lanes_read D c.args.bytes.now c.args.i c.type_inv.bytes
