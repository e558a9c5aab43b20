use Rattle.std.proofs.Common.{◌≡◌, length, Fits, ap, ◌∙◌, map, nat_lt, ◌+◌, ◌-◌, ◌%◌}
use Rattle.std.proofs.lemmas.Simd.{below_from_Fits, tops_compared}
use Rattle.std.specs.Int.{w16}
use Rattle.std.specs.Simd.Lanes.{Each1, zip2, sel_l}
use Rattle.vector_elements.specs.declared.size.Size.TheVariants.{H}
use Rattle.vector_elements.specs.Numbers.{range_of}
use Rattle.sve_exec.specs.Arithmetic.{arithmetic_of}
use Rattle.sve_exec.proofs.Joined.{lanes_more}
use Rattle.sve_exec.proofs.lane_ops.SaturatingSumLanewise.of_halfwords.Goals as goal

pub returns : goal.returns
unfolding arithmetic_of
returns c =
    let a : (length c.args.a ≡ 8) × Each1 (Fits w16) c.args.a = assumption c in
    let b : (length c.args.b ≡ 8) × Each1 (Fits w16) c.args.b = assumption c in
    ap (λ ms. zip2 (λ x y. (x + y) % range_of H) c.args.a (sel_l ms c.args.b (map (λ x. range_of H - 1 - x) c.args.a)))
    (tops_compared w16 nat_lt c.args.b (map (λ x. range_of H - 1 - x) c.args.a))
    ∙ lanes_more H c.args.a c.args.b (below_from_Fits w16 _ a.1) (below_from_Fits w16 _ b.1)
