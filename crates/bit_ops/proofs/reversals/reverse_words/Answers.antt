use Rattle.std.proofs.Common.{◌∙◌, arith}
use Rattle.bit_ops.specs.Reversals.{reversed_bytes}
use Rattle.bit_ops.specs.Bits.{number_of_digits}
use Rattle.bit_ops.proofs.reversals.reverse_words.Goals as goal

pub returns : goal.returns
unfolding reversed_bytes number_of_digits
returns c =
    let sum = rw c.to_le_bytes-b.ensures at c.from_le_bytes.ensures in
    sum ∙ omega arith
