use Rattle.std.proofs.Common.{◌≡◌, length, Fits, nat_lt, nat_le, ◌-◌, replicate}
use Rattle.std.proofs.lemmas.Simd.{below_from_Fits, tops_compared}
use Rattle.std.specs.Int.{w32}
use Rattle.std.specs.Simd.Lanes.{Each1, zip2}
use Rattle.vector_elements.specs.declared.size.Size.TheVariants.{S}
use Rattle.vector_elements.specs.Numbers.{half_of}
use Rattle.sve_exec.specs.Arithmetic.{sum_of}
use Rattle.sve_exec.proofs.Saturated.{signed_sums}
use Rattle.sve_exec.proofs.lane_ops.SignedSaturatingSumLanewise.of_words.Goals as goal

pub returns : goal.returns
returns c =
    let a : (length c.args.a ≡ 4) × Each1 (Fits w32) c.args.a = assumption c in
    let b : (length c.args.b ≡ 4) × Each1 (Fits w32) c.args.b = assumption c in
    let half = replicate 4 (half_of S) in
    let most = replicate 4 (half_of S - 1) in
    let value = zip2 (sum_of S) c.args.a c.args.b in
    signed_sums S 4 c.args.a c.args.b a.0 (below_from_Fits w32 _ a.1) (below_from_Fits w32 _ b.1)
    (tops_compared w32 nat_le half c.args.a) (tops_compared w32 nat_le half c.args.b)
    (tops_compared w32 nat_lt value half) (tops_compared w32 nat_lt value most)
