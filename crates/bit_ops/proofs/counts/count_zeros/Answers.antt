use Rattle.std.proofs.Common.{◌≡◌, ◌∙◌, ◌%◌, ◌^◌, ap, arith, ◌-◌, bit_and}
use Rattle.std.specs.Int.{leading_zeros, w32, w64}
use Rattle.std.proofs.lemmas.Nat.{and_mask}
use Rattle.bit_ops.specs.Counts.{leading_zeros_of}
use Rattle.bit_ops.proofs.LowParts.{low_wide, low_narrow}
use Rattle.bit_ops.proofs.Runs.{zeros_wide, zeros_narrow}
use Rattle.bit_ops.proofs.counts.count_zeros.Goals as goal

pub returns-then-wide-clause-value : goal.returns-then-wide-clause-value
returns-then-wide-clause-value c =
    low_wide (λ w n. leading_zeros w64 c.args.value ≡ leading_zeros_of w n) c.args.wide c.args.value c.if-wide.true (omega arith)
    (zeros_wide c.args.value (omega arith))

pub returns-else-wide-clause-value : goal.returns-else-wide-clause-value
returns-else-wide-clause-value c =
    let low = and_mask c.args.value 32 in
    low_narrow (λ w n. leading_zeros w32 (bit_and c.args.value (2 ^ 32 - 1)) ≡ leading_zeros_of w n) c.args.wide c.args.value
    c.if-wide.false
    (ap (leading_zeros w32) low ∙ zeros_narrow (c.args.value % 2 ^ 32) (omega arith))
