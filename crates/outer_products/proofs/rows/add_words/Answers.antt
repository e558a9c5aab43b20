use Rattle.std.proofs.Common.{arith, ap, ◌*◌, ◌+◌, ℕ, List, ℤ, pos, get_or, Fits}
use Rattle.std.specs.Int.{w8}
use Rattle.vector_elements.specs.declared.size.Size.TheVariants.{S}
use Rattle.vector_elements.specs.Elements.{listed}
use Rattle.vector_elements.proofs.Sixteen.{row_lane}
use Rattle.outer_products.proofs.Written.{stored, word_lane_is}
use Rattle.outer_products.proofs.Lanes.{four_lanes}
use Rattle.outer_products.proofs.rows.add_words.Goals as goal

pub returns : goal.returns
unfolding listed
returns c = λ exact is.
    let i = 4 * c.args.i in
    let row = c.args.row.now in
    let fits : (k : ℕ) → Fits w8 (get_or row k 0) = assumption c in
    stored S exact row _ (16 * c.args.i) i 4 (omega arith) (omega arith) c.requires (four_lanes
    (word_lane_is exact row i (i + 0) _ _ (omega arith) (row_lane S row c.args.i 4 0 i fits (omega arith)
    (omega arith) (omega arith))
    (ap (λ (xs : List ℤ). get_or xs 0 (pos 0)) is))
    (word_lane_is exact row (i + 1) (i + 1) _ _ (omega arith) (row_lane S row c.args.i 4 1 (i + 1) fits (omega arith)
    (omega arith) (omega arith))
    (ap (λ (xs : List ℤ). get_or xs 1 (pos 0)) is))
    (word_lane_is exact row (i + 2) (i + 2) _ _ (omega arith) (row_lane S row c.args.i 4 2 (i + 2) fits (omega arith)
    (omega arith) (omega arith))
    (ap (λ (xs : List ℤ). get_or xs 2 (pos 0)) is))
    (word_lane_is exact row (i + 3) (i + 3) _ _ (omega arith) (row_lane S row c.args.i 4 3 (i + 3) fits (omega arith)
    (omega arith) (omega arith))
    (ap (λ (xs : List ℤ). get_or xs 3 (pos 0)) is)))
