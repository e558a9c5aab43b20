use Rattle.std.proofs.Common.{ap, ◌∙◌, ◌==◌, not, bit_and}
use Rattle.predicates.proofs.Whole.{some_is}
use Rattle.predicates.proofs.flags.some_holds.Goals as goal

pub returns : goal.returns
returns c =
    ap (λ n. not (bit_and c.bits_of_some.result n == 0)) c.element_bits.ensures
    ∙ some_is c.args.size c.bits_of_some.result c.args.p.now c.bits_of_some.type_inv c.bits_of_some.ensures
