use Rattle.std.proofs.Common.{arith, ◌+◌, ◌*◌}
use Rattle.std.specs.Int.{w32}
use Rattle.outer_products.proofs.Lanes.{doubleword_dot, lane_at, two_lanes}
use Rattle.outer_products.proofs.dots.doubleword_sums.Goals as goal

pub returns : goal.returns
returns c =
    let i = c.args.i in
    let m = c.args.m.now in
    let dot = doubleword_dot c.args.n m c.requires.n_fit c.requires.m_fit in
    two_lanes
    (dot _ _ _ _ _ _ _ _ _ (lane_at w32 m _ (8 * i) 4 0 (omega arith) (omega arith)) (lane_at w32 m _ (8 * i) 4 1 (omega arith) (omega arith))
    (lane_at w32 m _ (8 * i + 4) 4 0 (omega arith) (omega arith)) (lane_at w32 m _ (8 * i + 4) 4 1 (omega arith) (omega arith))
    (omega arith) (omega arith) (omega arith) (omega arith))
    (dot _ _ _ _ _ _ _ _ _ (lane_at w32 m _ (8 * i) 4 2 (omega arith) (omega arith)) (lane_at w32 m _ (8 * i) 4 3 (omega arith) (omega arith))
    (lane_at w32 m _ (8 * i + 4) 4 2 (omega arith) (omega arith)) (lane_at w32 m _ (8 * i + 4) 4 3 (omega arith) (omega arith))
    (omega arith) (omega arith) (omega arith) (omega arith))
