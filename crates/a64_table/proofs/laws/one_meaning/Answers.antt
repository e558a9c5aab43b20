use Rattle.insn_forms.proofs.FirstLine.{one_meaning}
use Rattle.a64_table.specs.Table.{scalar, meaning_of}
use Rattle.a64_table.proofs.Checks.{one_row}
use Rattle.a64_table.proofs.laws.one_meaning.Goals as goal

pub returns : goal.returns
unfolding meaning_of
returns c word it lt = one_meaning scalar word (one_row word) lt it
