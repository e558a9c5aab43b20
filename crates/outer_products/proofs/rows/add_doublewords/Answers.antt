use Rattle.std.proofs.Common.{arith, ap, ◌*◌, ◌+◌, ℕ, List, ℤ, pos, get_or, Fits}
use Rattle.std.specs.Int.{w8}
use Rattle.vector_elements.specs.declared.size.Size.TheVariants.{D}
use Rattle.vector_elements.specs.Elements.{listed}
use Rattle.vector_elements.proofs.Sixteen.{row_lane}
use Rattle.outer_products.proofs.Written.{stored, doubleword_lane_is}
use Rattle.outer_products.proofs.Lanes.{two_lanes}
use Rattle.outer_products.proofs.rows.add_doublewords.Goals as goal

pub returns : goal.returns
unfolding listed
returns c = λ exact is.
    let i = 2 * c.args.i in
    let row = c.args.row.now in
    let fits : (k : ℕ) → Fits w8 (get_or row k 0) = assumption c in
    stored D exact row _ (16 * c.args.i) i 2 (omega arith) (omega arith) c.requires (two_lanes
    (doubleword_lane_is exact row i (i + 0) _ _ (omega arith) (row_lane D row c.args.i 2 0 i fits (omega arith)
    (omega arith) (omega arith))
    (ap (λ (xs : List ℤ). get_or xs 0 (pos 0)) is))
    (doubleword_lane_is exact row (i + 1) (i + 1) _ _ (omega arith) (row_lane D row c.args.i 2 1 (i + 1) fits (omega arith)
    (omega arith) (omega arith))
    (ap (λ (xs : List ℤ). get_or xs 1 (pos 0)) is)))
