use Rattle.std.proofs.Common.{arith, ◌≡◌, ◌+◌, subst, sym}
use Rattle.bit_ops.proofs.MaskBits.{IsRun, first_run, next_run, size_small}
use Rattle.bit_ops.proofs.masks.repeated.Goals as goal

pub first_ones-mask-requires : goal.first_ones-mask-requires
first_ones-mask-requires c = let small = size_small c.args.length c.requires.length in omega arith

pub loop-log-init : goal.loop-log-init
loop-log-init c =
    subst (IsRun c.args.length c.args.ones c.args.length) (sym c.first_ones-mask.ensures)
    (first_run c.args.length c.args.ones c.requires.ones)

pub loop-log-preserved : goal.loop-log-preserved
loop-log-preserved c =
    subst (IsRun c.args.length c.args.ones (c.loop-log.log + 1)) (sym c.doubled-mask.ensures)
    (next_run c.args.length c.args.ones c.loop-log.log c.loop-log.mask (omega arith) c.loop-log.invariant)

pub returns : goal.returns
returns c =
    let last : c.loop-log.log ≡ 6 = omega arith in
    (subst (λ k. IsRun c.args.length c.args.ones k c.loop-log.mask) last c.loop-log.invariant).bits
