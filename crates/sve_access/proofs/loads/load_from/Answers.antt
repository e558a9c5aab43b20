use Rattle.std.proofs.Common.{◌∙◌, subst}
use Rattle.vector_elements.specs.declared.size.Size.{Size}
use Rattle.vector_elements.specs.Active.{AreActive}
use Rattle.vector_elements.proofs.Full.{all_active_or_zero}
use Rattle.sve_access.proofs.loads.load_from.Goals as goal

pub returns-then-are_active : goal.returns-then-are_active
returns-then-are_active c =
    let active = subst (λ (size : Size). AreActive size c.args.pg.now) c.element_size.ensures
    (c.are_active.ensures.0 c.if-are_active.true) in
    c.load_all.ensures ∙ all_active_or_zero _ _ _ _ active c.requires.bits
