use Rattle.std.proofs.Common.{arith}
use Rattle.std.proofs.lemmas.Nat.{pow_below}
use Rattle.insn_text.specs.Texts.{bits_of}
use Rattle.insn_text.proofs.Sizes.{in_word, sizes}
use Rattle.insn_text.proofs.print.number_in.Goals as goal

pub field_in-requires : goal.field_in-requires
field_in-requires c = in_word c.args.item.now c.requires

pub returns-clause-below : goal.returns-clause-below
returns-clause-below c =
    let most = pow_below (bits_of c.args.item.now) 31 (sizes c.args.item.now c.requires).few in
    omega (arith, c.field_in.ensures.small)
