use Rattle.std.proofs.Common.{◌≡◌, arith, length, subst}
use Rattle.vector_elements.proofs.Full.{HasBitsTo, begun_bits, next_bits}
use Rattle.vector_elements.proofs.mask.common_bits.Goals as goal

pub loop-i-init : goal.loop-i-init
loop-i-init c = begun_bits _

pub loop-i-preserved : goal.loop-i-preserved
loop-i-preserved c = next_bits _ _ _ c.loop-i.invariant

pub returns : goal.returns
returns c =
    let all : c.loop-i.i ≡ length c.args.p.now = omega arith in
    subst (λ n. HasBitsTo c.loop-i.bits c.args.p.now n) all c.loop-i.invariant
