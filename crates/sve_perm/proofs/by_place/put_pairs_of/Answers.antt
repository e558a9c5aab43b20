use Rattle.std.proofs.Common.{arith, ap, ◌∙◌, ◌≡◌, ◌/◌, ◌*◌, length}
use Rattle.vector_elements.proofs.Lists.{begun}
use Rattle.sve_perm.proofs.Pairs.{pair_written, pairs_done}
use Rattle.sve_perm.proofs.by_place.put_pairs_of.Goals as goal

pub loop-i-init : goal.loop-i-init
loop-i-init g c = begun _ _ _

pub loop-i-preserved : goal.loop-i-preserved
loop-i-preserved g c =
    pair_written _ _ _ _ _ _ _ c.loop-i.invariant c.value_at-even.ensures c.value_at-odd.ensures _ _ c.set_element.ensures
    c.set_element-in-loop-i.ensures

pub returns : goal.returns
returns g c =
    let count : c.loop-i.i ≡ length c.args.d.now / (2 * c.bytes.result) = omega arith in
    pairs_done _ _ _ _ _ c.requires.pairs (count ∙ ap (λ k. length c.args.d.now / (2 * k)) c.bytes.ensures) c.loop-i.invariant
