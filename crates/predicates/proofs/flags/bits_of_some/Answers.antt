use Rattle.std.proofs.Common.{◌≡◌, arith, length, subst}
use Rattle.predicates.proofs.Whole.{HasBitsOfFirst, begun_some, next_some}
use Rattle.predicates.proofs.flags.bits_of_some.Goals as goal

pub loop-i-init : goal.loop-i-init
loop-i-init c = begun_some _

pub loop-i-preserved : goal.loop-i-preserved
loop-i-preserved c = next_some _ _ _ c.loop-i.invariant

pub returns : goal.returns
returns c =
    let all : c.loop-i.i ≡ length c.args.p.now = omega arith in
    subst (λ n. HasBitsOfFirst c.loop-i.bits c.args.p.now n) all c.loop-i.invariant
