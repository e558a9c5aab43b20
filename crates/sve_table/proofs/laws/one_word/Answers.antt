use Rattle.insn_forms.proofs.Tables.{means-word, one_word}
use Rattle.sve_table.specs.Parts.{parts_of}
use Rattle.sve_table.specs.Table.{vector}
use Rattle.sve_table.proofs.Checks.{is_table}
use Rattle.sve_table.proofs.laws.one_word.Goals as goal

pub returns : goal.returns
returns c w v it m n =
    one_word vector parts_of is_table w v it (means-word vector parts_of is_table w it m) (means-word vector parts_of is_table v it n)
