use Rattle.std.proofs.Common.{arith}
use Rattle.outer_products.proofs.Lanes.{word_dot, four_lanes}
use Rattle.outer_products.proofs.dots.word_sums.Goals as goal

pub returns : goal.returns
returns c =
    let dot = word_dot c.args.n c.args.m.now c.requires.n_fit c.requires.m_fit in
    four_lanes
    (dot _ _ _ _ _ (omega arith) (omega arith) (omega arith) (omega arith))
    (dot _ _ _ _ _ (omega arith) (omega arith) (omega arith) (omega arith))
    (dot _ _ _ _ _ (omega arith) (omega arith) (omega arith) (omega arith))
    (dot _ _ _ _ _ (omega arith) (omega arith) (omega arith) (omega arith))
