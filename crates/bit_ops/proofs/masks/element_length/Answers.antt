use Rattle.std.proofs.Common.{arith}
use Rattle.bit_ops.proofs.MaskBits.{bool_number-lt, length_none, length_some}
use Rattle.bit_ops.proofs.masks.element_length.Goals.{Else-bits-eq0}
use Rattle.bit_ops.proofs.masks.element_length.Goals as goal

pub returns-then-bits-eq0-clause-value : goal.returns-then-bits-eq0-clause-value
returns-then-bits-eq0-clause-value c =
    length_none c.args.n c.args.imms c.length_bits-bits.result c.length_bits-bits.ensures c.if-bits-eq0.true

pub returns-else-bits-eq0-clause-value : goal.returns-else-bits-eq0-clause-value
returns-else-bits-eq0-clause-value c =
    (length_some c.args.n c.args.imms c.length_bits-bits.result c.length_bits-bits.ensures (omega arith)
    (omega (arith, bool_number-lt c.args.n))).0

pub returns-else-bits-eq0-clause-small : goal.returns-else-bits-eq0-clause-small
returns-else-bits-eq0-clause-small c =
    (length_some c.args.n c.args.imms c.length_bits-bits.result c.length_bits-bits.ensures (omega arith)
    (omega (arith, bool_number-lt c.args.n))).1
