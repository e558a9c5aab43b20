use Rattle.std.proofs.Common.{ap, ◌∙◌, ◌==◌}
use Rattle.predicates.proofs.Gathered.{bit_of_lanes, lane_at, lanes_long}
use Rattle.predicates.proofs.marks.gather.Goals as goal

pub returns : goal.returns
returns c = λ k below.
    bit_of_lanes _ k (lanes_long c.args.marks.now c.args.i c.requires) below
    ∙ ap (λ n. n == 255) (lane_at c.args.marks.now c.args.i k c.requires below)
