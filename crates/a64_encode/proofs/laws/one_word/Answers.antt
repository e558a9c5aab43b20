use Rattle.std.proofs.Common.{inl, inr}
use Rattle.insn_forms.proofs.Tables.{means-word, one_word}
use Rattle.a64_table.specs.Parts.{parts_of}
use Rattle.a64_table.specs.Table.{scalar}
use Rattle.a64_table.proofs.Checks.{is_table}
use Rattle.sve_table.specs.Parts.{parts_of as vector_parts}
use Rattle.sve_table.specs.Table.{vector}
use Rattle.sve_table.proofs.Checks.{is_table as is_vector_table}
use Rattle.a64_encode.proofs.Either.{never_both}
use Rattle.a64_encode.proofs.laws.one_word.Goals as goal

pub returns : goal.returns
returns c w v it m n = elim m [
  | inl a ↦ elim n [
    | inl b ↦ one_word scalar parts_of is_table w v it (means-word scalar parts_of is_table w it a)
        (means-word scalar parts_of is_table v it b)
    | inr b ↦ absurd (never_both w v it a b)
  ]
  | inr a ↦ elim n [
    | inl b ↦ absurd (never_both v w it b a)
    | inr b ↦ one_word vector vector_parts is_vector_table w v it (means-word vector vector_parts is_vector_table w it a)
        (means-word vector vector_parts is_vector_table v it b)
  ]
]
