use Rattle.std.proofs.Common.{◌≡◌, ◌*◌, ◌/◌, length, arith, ap, ◌∙◌}
use Rattle.vector_elements.specs.Numbers.{bytes_in}
use Rattle.vector_elements.specs.Elements.{bit_of}
use Rattle.predicates.proofs.Governed.{tells_none, tells_further, flags_are}
use Rattle.predicates.proofs.flags.flags_of_each.Goals as goal

pub loop-i-init : goal.loop-i-init
loop-i-init c = tells_none _ _ _

pub loop-i-preserved : goal.loop-i-preserved
loop-i-preserved c =
    let on = c.bit-on.ensures ∙ ap (λ k. bit_of c.args.mask.now (k * c.loop-i.i)) c.bytes-width.ensures in
    let holds = c.bit-holds.ensures ∙ ap (λ k. bit_of c.args.results.now (k * c.loop-i.i)) c.bytes-width.ensures in
    let t = tells_further (bytes_in c.args.size) c.args.mask.now c.args.results.now c.loop-i.i _ _ _ _ _ _ c.loop-i.invariant on holds in
    rw (c.choose-first.ensures, c.choose-last.ensures) t

pub returns : goal.returns
returns c =
    let q : c.loop-i.i ≡ 8 * length c.args.mask.now / c.bytes-width.result = omega arith in
    flags_are _ _ _ _ _ _ _ _ c.requires.same (q ∙ ap (λ k. 8 * length c.args.mask.now / k) c.bytes-width.ensures) c.loop-i.invariant
