use Rattle.insn_text.proofs.Tables.{punctuation_ascii, few_bits}
use Rattle.insn_text.proofs.print.push_kind.Goals as goal

pub push_bytes-requires-clause-ascii : goal.push_bytes-requires-clause-ascii
push_bytes-requires-clause-ascii c = punctuation_ascii c.args.kind c.in-Punctuation.character c.in-Punctuation.is c.requires.character

pub push_sized_field-requires-clause-few : goal.push_sized_field-requires-clause-few
push_sized_field-requires-clause-few c =
    few_bits c.args.kind c.in-Sized.file c.in-Sized.bits c.in-Sized.suffix c.in-Sized.is c.requires.character
