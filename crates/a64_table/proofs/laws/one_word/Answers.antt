use Rattle.insn_forms.proofs.Tables.{means-word, one_word}
use Rattle.a64_table.specs.Parts.{parts_of}
use Rattle.a64_table.specs.Table.{scalar}
use Rattle.a64_table.proofs.Checks.{is_table}
use Rattle.a64_table.proofs.laws.one_word.Goals as goal

pub returns : goal.returns
returns c w v it m n = one_word scalar parts_of is_table w v it (means-word scalar parts_of is_table w it m)
    (means-word scalar parts_of is_table v it n)
