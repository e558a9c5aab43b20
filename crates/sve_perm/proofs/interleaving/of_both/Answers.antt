use Rattle.std.proofs.Common.{◌-◌, ap, ◌∙◌, sym}
use Rattle.vector_elements.specs.Elements.{element_of}
use Rattle.vector_elements.specs.Numbers.{bytes_in}
use Rattle.sve_perm.proofs.Permuted.{of_first, of_second}
use Rattle.sve_perm.proofs.interleaving.of_both.Goals as goal

pub returns-then-i-half : goal.returns-then-i-half
returns-then-i-half c =
    let below = c.if-i-half.true in let half = c.count-half.ensures in
    c.element.ensures.value ∙ sym (of_first c.args.size c.args.n.now c.args.m.now c.args.i (rw (sym half) below))

pub returns-else-i-half : goal.returns-else-i-half
returns-else-i-half c =
    let past = c.if-i-half.false in let half = c.count-half.ensures in
    c.element-else-i-half.ensures.value
    ∙ ap (λ k. element_of (bytes_in c.args.size) c.args.m.now (c.args.i - k)) half
    ∙ sym (of_second c.args.size c.args.n.now c.args.m.now c.args.i c.requires.whole (rw (sym half) past))
