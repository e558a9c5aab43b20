use Rattle.std.proofs.Common.{arith}
use Rattle.std.proofs.lemmas.Nat.{one_shl}
use Rattle.bit_ops.proofs.MaskBits.{size_small}
use Rattle.bit_ops.proofs.masks.element_size.Goals as goal

pub returns-clause-small : goal.returns-clause-small
returns-clause-small c =
    let one = one_shl c.args.length 32 (omega arith) in
    let small = size_small c.args.length (omega arith) in
    omega arith
