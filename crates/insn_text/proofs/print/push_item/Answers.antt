use Rattle.std.proofs.Common.{arith}
use Rattle.insn_text.proofs.Sizes.{sizes, ascii_punctuation}
use Rattle.insn_text.proofs.print.push_item.Goals as goal

pub push_kind-requires-clause-character : goal.push_kind-requires-clause-character
push_kind-requires-clause-character c = ascii_punctuation c.args.item.now c.requires.sized

pub push_kind-requires-clause-bits : goal.push_kind-requires-clause-bits
push_kind-requires-clause-bits c = let h = (sizes c.args.item.now c.requires.sized).few in omega arith
