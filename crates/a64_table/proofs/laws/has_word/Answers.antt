use Rattle.insn_forms.proofs.Tables.{in_line-word, word-means}
use Rattle.a64_table.specs.Parts.{parts_of}
use Rattle.a64_table.specs.Table.{scalar}
use Rattle.a64_table.proofs.Checks.{is_table}
use Rattle.a64_table.proofs.HasLine.{in_line}
use Rattle.a64_table.proofs.laws.has_word.Goals as goal

pub returns : goal.returns
returns c it h = let x = in_line-word scalar parts_of is_table it (in_line it h) in record {
  word = x.0;
  means = word-means scalar parts_of is_table x.0 it x.1;
}
