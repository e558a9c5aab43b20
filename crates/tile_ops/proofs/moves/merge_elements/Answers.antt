use Rattle.std.proofs.Common.{arith, length}
use Rattle.tile_ops.specs.Moves.{merged}
use Rattle.tile_ops.proofs.Filled.{filled_none, filled_all, chosen_next}
use Rattle.tile_ops.proofs.moves.merge_elements.Goals as goal

pub loop-i-init : goal.loop-i-init
loop-i-init c = filled_none _ _ _

pub loop-i-preserved : goal.loop-i-preserved
loop-i-preserved c =
    rw c.choose_element.ensures
    (chosen_next c.args.e c.args.pg.now c.args.new.now c.args.old.now c.loop-i.old c.loop-i.i (length c.args.old.now)
    (omega arith) (omega arith) (omega arith) (omega arith) c.loop-i.invariant)

pub returns : goal.returns
unfolding merged
returns c =
    filled_all c.args.e _ c.args.old.now c.loop-i.old c.loop-i.i (length c.args.old.now) c.requires.whole
    (omega arith) (omega arith) c.loop-i.invariant
