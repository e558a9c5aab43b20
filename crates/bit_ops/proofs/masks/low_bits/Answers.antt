use Rattle.std.proofs.Common.{◌-◌, ◌∙◌, bit_and, ap₂}
use Rattle.std.proofs.lemmas.Nat.{and_mask}
use Rattle.bit_ops.proofs.masks.low_bits.Goals as goal

pub returns-clause-value : goal.returns-clause-value
returns-clause-value c =
    ap₂ (λ n size. bit_and n (size - 1)) c.from.ensures c.element_size.ensures.value ∙ and_mask c.args.field c.args.length
