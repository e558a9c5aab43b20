use Rattle.tile_ops.specs.Moves.{chosen_element}
use Rattle.tile_ops.proofs.Filled.{IsFilledTo}
use Rattle.tile_ops.proofs.moves.merge_elements.Given as goal

abbrev pub invariant-loop-i : goal.invariant-loop-i
invariant-loop-i l = IsFilledTo l.e (chosen_element l.e l.pg l.new l.fn.old) l.fn.old l.old l.i
