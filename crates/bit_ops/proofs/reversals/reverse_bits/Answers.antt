use Rattle.std.proofs.Common.{◌≡◌, ◌∙◌, subst, arith, false}
use Rattle.std.proofs.lemmas.Nat.{and_mask}
use Rattle.bit_ops.specs.Reversals.{reversed_bits}
use Rattle.bit_ops.proofs.LowParts.{low_wide, low_narrow}
use Rattle.bit_ops.proofs.Reversing.{reversed_wide, reversed_narrow}
use Rattle.bit_ops.proofs.reversals.reverse_bits.Goals as goal

pub returns-then-wide-clause-value : goal.returns-then-wide-clause-value
returns-then-wide-clause-value c =
    low_wide (λ w n. c.reverse_bits.result ≡ reversed_bits w n) c.args.wide c.args.value c.if-wide.true (omega arith)
    (c.reverse_bits.ensures ∙ reversed_wide c.args.value)

pub returns-else-wide-clause-value : goal.returns-else-wide-clause-value
returns-else-wide-clause-value c =
    low_narrow (λ w n. c.from.result ≡ reversed_bits w n) c.args.wide c.args.value c.if-wide.false
    (subst (λ n. c.from.result ≡ reversed_bits false n) (and_mask c.args.value 32)
    (c.from.ensures ∙ c.reverse_bits-else-wide.ensures ∙ reversed_narrow _))
