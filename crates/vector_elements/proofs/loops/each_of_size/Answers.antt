use Rattle.std.proofs.Common.{arith, ap, ◌∙◌, ◌≡◌, ◌/◌, length}
use Rattle.vector_elements.proofs.Lists.{begun, some_bytes, written, unread, finished}
use Rattle.vector_elements.proofs.loops.each_of_size.Goals as goal

pub loop-i-init : goal.loop-i-init
loop-i-init g c = begun _ _ _

pub loop-i-preserved : goal.loop-i-preserved
loop-i-preserved g c =
    let same = unread _ _ _ _ _ c.loop-i.invariant in
    c.set_element.ensures ∙ written _ _ _ _ _ _ c.loop-i.invariant (cc same)

pub returns : goal.returns
returns g c =
    let count : c.loop-i.i ≡ length c.args.d.now / c.bytes.result = omega arith in
    finished _ _ _ _ _ (some_bytes c.args.size) c.requires.whole
    (count ∙ ap (λ k. length c.args.d.now / k) c.bytes.ensures) c.loop-i.invariant
