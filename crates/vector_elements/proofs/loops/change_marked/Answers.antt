use Rattle.std.proofs.Common.{ap, arith, ◌∙◌, ◌*◌, ◌<◌, length, if◌then◌else◌}
use Rattle.vector_elements.specs.Numbers.{bytes_in}
use Rattle.vector_elements.proofs.Masks.{each_same, within}
use Rattle.vector_elements.proofs.loops.change_marked.Goals as goal

pub returns : goal.returns
returns g c =
    c.change_each.ensures ∙ each_same _ _ _ _ (λ i below old.
    let inside = within c.args.size i (length c.args.d.now) below in
    let place : bytes_in c.args.size * i < 8 * length c.args.p.now = (let bits = c.requires.bits in omega (arith, bits, inside)) in
    ap (λ b. if b then g.C.Change.gives c.args.change.now c.args.size i old else old) (c.expand.ensures _ place))
