use Rattle.std.proofs.Common.{◌≡◌, length, Fits, ap, ◌∙◌, nat_lt, ◌+◌, ◌-◌, ◌%◌}
use Rattle.std.proofs.lemmas.Simd.{below_from_Fits, tops_compared}
use Rattle.std.specs.Int.{w64}
use Rattle.std.specs.Simd.Lanes.{Each1, zip2, sel_l}
use Rattle.vector_elements.specs.declared.size.Size.TheVariants.{D}
use Rattle.vector_elements.specs.Numbers.{range_of}
use Rattle.sve_exec.specs.Arithmetic.{arithmetic_of}
use Rattle.sve_exec.proofs.Joined.{lanes_less}
use Rattle.sve_exec.proofs.lane_ops.SaturatingDifferenceLanewise.of_doublewords.Goals as goal

pub returns : goal.returns
unfolding arithmetic_of
returns c =
    let a : (length c.args.a ≡ 2) × Each1 (Fits w64) c.args.a = assumption c in
    let b : (length c.args.b ≡ 2) × Each1 (Fits w64) c.args.b = assumption c in
    ap (λ ms. zip2 (λ x y. (x + (range_of D - y)) % range_of D) (sel_l ms c.args.b c.args.a) c.args.b)
    (tops_compared w64 nat_lt c.args.a c.args.b)
    ∙ lanes_less D c.args.a c.args.b (below_from_Fits w64 _ a.1) (below_from_Fits w64 _ b.1)
