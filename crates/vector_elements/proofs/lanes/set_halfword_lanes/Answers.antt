use Rattle.std.proofs.Common.{◌≡◌, length, Fits}
use Rattle.std.proofs.lemmas.Simd.{below_from_Fits}
use Rattle.std.specs.Int.{w16}
use Rattle.std.specs.Simd.Lanes.{Each1}
use Rattle.vector_elements.specs.declared.size.Size.TheVariants.{H}
use Rattle.vector_elements.proofs.Sixteen.{lanes_written}
use Rattle.vector_elements.proofs.lanes.set_halfword_lanes.Goals as goal

pub returns : goal.returns
returns c =
    let fits : (length c.args.lanes ≡ 8) × Each1 (Fits w16) c.args.lanes = assumption c in
    lanes_written H c.args.bytes.now c.args.lanes c.args.i (fits.0, below_from_Fits w16 _ fits.1) c.requires
