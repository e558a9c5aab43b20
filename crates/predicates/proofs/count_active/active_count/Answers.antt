use Rattle.std.proofs.Common.{◌≡◌, ◌+◌, ◌*◌, ◌/◌, length, arith, ap, ◌∙◌}
use Rattle.vector_elements.specs.Elements.{bit_of}
use Rattle.vector_elements.specs.Numbers.{bytes_in}
use Rattle.predicates.proofs.Loops.{count_none, count_further, count_is}
use Rattle.predicates.proofs.count_active.active_count.Goals as goal

pub loop-i-init : goal.loop-i-init
loop-i-init c = (count_none _ _ _, omega arith)

pub loop-i-preserved : goal.loop-i-preserved
loop-i-preserved c =
    let on = c.bit-on.ensures ∙ ap (λ k. bit_of c.args.pg.now (k * c.loop-i.i)) c.bytes-width.ensures in
    let holds = c.bit-holds.ensures ∙ ap (λ k. bit_of c.args.pn.now (k * c.loop-i.i)) c.bytes-width.ensures in
    let counted = count_further (bytes_in c.args.size) c.args.pg.now c.args.pn.now c.loop-i.i _ _ _ c.loop-i.invariant.0 on holds in
    let few = c.loop-i.invariant.1 in
    let one = c.one_where-count.ensures.small in
    (ap (λ k. c.loop-i.count + k) c.one_where-count.ensures.value ∙ counted, omega (arith, few, one))

pub returns : goal.returns
returns c =
    let q : c.loop-i.i ≡ 8 * length c.args.pg.now / c.bytes-width.result = omega arith in
    count_is _ _ _ _ _ c.requires.same (q ∙ ap (λ k. 8 * length c.args.pg.now / k) c.bytes-width.ensures) c.loop-i.invariant.0
