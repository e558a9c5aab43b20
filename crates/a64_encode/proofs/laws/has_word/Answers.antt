use Rattle.std.proofs.Common.{inl, inr}
use Rattle.insn_forms.proofs.Tables.{in_line-word, word-means}
use Rattle.a64_table.specs.Parts.{parts_of}
use Rattle.a64_table.specs.Table.{scalar}
use Rattle.a64_table.proofs.Checks.{is_table}
use Rattle.a64_table.proofs.HasLine.{in_line}
use Rattle.a64_table.proofs.Ranged.{ranged}
use Rattle.sve_table.specs.Parts.{parts_of as vector_parts}
use Rattle.sve_table.specs.Table.{vector}
use Rattle.sve_table.proofs.Checks.{is_table as is_vector_table}
use Rattle.sve_table.proofs.HasLine.{in_line as in_vector_line}
use Rattle.sve_table.proofs.Ranged.{ranged as vector_ranged}
use Rattle.a64_encode.proofs.laws.has_word.Goals as goal

pub returns : goal.returns
returns c it = (
  λ h. elim h.means [ inl m ↦ inl (ranged h.word it m) | inr m ↦ inr (vector_ranged h.word it m) ],
  λ r. elim r [
    | inl i ↦ let x =
        in_line-word scalar parts_of is_table it (in_line it i) in
        record { word = x.0; means = inl (word-means scalar parts_of is_table x.0 it x.1) }
    | inr i ↦ let x =
        in_line-word vector vector_parts is_vector_table it (in_vector_line it i) in
        record { word = x.0; means = inr (word-means vector vector_parts is_vector_table x.0 it x.1) }
  ],
)
