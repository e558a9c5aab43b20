use Rattle.std.proofs.Common.{ap, ◌∙◌, ◌%◌, ◌==◌, not, mod-eq_of_lt}
use Rattle.vector_elements.proofs.Masks.{lowest_byte}
use Rattle.vector_elements.proofs.mask.is_marked.Goals as goal

pub returns : goal.returns
returns c =
    ap (λ n. not (n == 0)) (ap (λ n. n % 256) c.element.ensures.value
    ∙ lowest_byte c.args.size c.args.mask.now c.args.i c.requires ∙ mod-eq_of_lt ((c.type_inv.mask _).fits))
