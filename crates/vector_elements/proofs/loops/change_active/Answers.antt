use Rattle.std.proofs.Common.{◌∙◌}
use Rattle.vector_elements.proofs.Full.{all_active}
use Rattle.vector_elements.proofs.loops.change_active.Goals as goal

pub returns-then-are_active : goal.returns-then-are_active
returns-then-are_active g c =
    c.change_each.ensures ∙ all_active _ _ _ _ (c.are_active.ensures.0 c.if-are_active.true) c.requires.bits
