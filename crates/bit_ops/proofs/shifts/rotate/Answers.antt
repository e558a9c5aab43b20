use Rattle.std.proofs.Common.{◌∙◌, arith, sym, ap, subst, ◌<◌, ◌+◌, ◌-◌, ◌*◌, ◌/◌, ◌%◌, ◌^◌}
use Rattle.bit_ops.specs.Shifts.{shifted}
use Rattle.bit_ops.specs.Sums.{word_size}
use Rattle.bit_ops.specs.Bits.{width_of}
use Rattle.bit_ops.proofs.Rotating.{rotated}
use Rattle.bit_ops.proofs.shifts.rotate.Goals as goal

pub returns-then-wide-clause-value : goal.returns-then-wide-clause-value
unfolding shifted
returns-then-wide-clause-value c =
    c.rotate_right.ensures ∙ rotated 64 c.args.word c.args.amount (omega arith)
    (subst (λ w. c.args.amount < width_of w) c.if-wide.true c.requires.amount)
    ∙ ap (λ w. c.args.word / 2 ^ c.args.amount + c.args.word % 2 ^ c.args.amount * 2 ^ (width_of w - c.args.amount)) (sym c.if-wide.true)

pub returns-else-wide-clause-value : goal.returns-else-wide-clause-value
unfolding shifted
returns-else-wide-clause-value c =
    let small = subst (λ w. c.args.word < word_size w) c.if-wide.false c.requires.small in
    c.from.ensures ∙ c.rotate_right-else-wide.ensures
    ∙ rotated 32 c.args.word c.args.amount small (subst (λ w. c.args.amount < width_of w) c.if-wide.false c.requires.amount)
    ∙ ap (λ w. c.args.word / 2 ^ c.args.amount + c.args.word % 2 ^ c.args.amount * 2 ^ (width_of w - c.args.amount)) (sym c.if-wide.false)
