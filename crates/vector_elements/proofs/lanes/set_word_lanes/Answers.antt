use Rattle.std.proofs.Common.{◌≡◌, length, Fits}
use Rattle.std.proofs.lemmas.Simd.{below_from_Fits}
use Rattle.std.specs.Int.{w32}
use Rattle.std.specs.Simd.Lanes.{Each1}
use Rattle.vector_elements.specs.declared.size.Size.TheVariants.{S}
use Rattle.vector_elements.proofs.Sixteen.{lanes_written}
use Rattle.vector_elements.proofs.lanes.set_word_lanes.Goals as goal

pub returns : goal.returns
returns c =
    let fits : (length c.args.lanes ≡ 4) × Each1 (Fits w32) c.args.lanes = assumption c in
    lanes_written S c.args.bytes.now c.args.lanes c.args.i (fits.0, below_from_Fits w32 _ fits.1) c.requires
