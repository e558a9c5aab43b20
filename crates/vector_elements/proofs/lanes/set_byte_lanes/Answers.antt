use Rattle.std.proofs.Common.{◌≡◌, length, Fits}
use Rattle.std.proofs.lemmas.Simd.{below_from_Fits}
use Rattle.std.specs.Int.{w8}
use Rattle.std.specs.Simd.Lanes.{Each1}
use Rattle.vector_elements.proofs.Sixteen.{bytes_written}
use Rattle.vector_elements.proofs.lanes.set_byte_lanes.Goals as goal

pub returns : goal.returns
returns c =
    let fits : (length c.args.lanes ≡ 16) × Each1 (Fits w8) c.args.lanes = assumption c in
    bytes_written c.args.bytes.now c.args.lanes c.args.i (fits.0, below_from_Fits w8 _ fits.1) c.requires
