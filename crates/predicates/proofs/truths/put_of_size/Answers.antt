use Rattle.std.proofs.Common.{◌≡◌, ◌*◌, ◌/◌, length, arith, ap, ◌∙◌}
use Rattle.predicates.proofs.Bits.{is_whole}
use Rattle.predicates.proofs.truths.put_of_size.Goals as goal

pub returns : goal.returns
returns g c =
    let q : c.loop-i.i ≡ 8 * length c.clear.new.p / c.bytes.result = omega arith in
    let long : length c.clear.new.p ≡ length c.args.pd.now = omega arith in
    let count = q ∙ ap (λ k. 8 * k / c.bytes.result) long ∙ ap (λ k. 8 * length c.args.pd.now / k) c.bytes.ensures in
    is_whole _ _ _ _ _ c.truths_tell_bytes.ensures (omega arith) count c.loop-i.invariant
