use Rattle.insn_text.proofs.AllPrinted.{all_printed}
use Rattle.insn_text.proofs.laws.every_word_is_printed.Goals as goal

pub returns : goal.returns
returns c = all_printed
