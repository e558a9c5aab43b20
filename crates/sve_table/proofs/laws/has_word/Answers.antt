use Rattle.insn_forms.proofs.Tables.{in_line-word, word-means}
use Rattle.sve_table.specs.Parts.{parts_of}
use Rattle.sve_table.specs.Table.{vector}
use Rattle.sve_table.proofs.Checks.{is_table}
use Rattle.sve_table.proofs.HasLine.{in_line}
use Rattle.sve_table.proofs.laws.has_word.Goals as goal

pub returns : goal.returns
returns c it h =
    let x = in_line-word vector parts_of is_table it (in_line it h) in
    record { word = x.0; means = word-means vector parts_of is_table x.0 it x.1 }
