use Rattle.std.proofs.Common.{inl, inr, sym, ◌∙◌}
use Rattle.std.proofs.lemmas.Bool.{both_ways}
use Rattle.sve_table.specs.Groups.{is_vector_group}
use Rattle.sve_table.proofs.OfVectors.{means_vector}
use Rattle.a64_encode.proofs.Either.{means_scalar}
use Rattle.a64_encode.proofs.word.encode.Goals as goal

pub returns-then-is_vector : goal.returns-then-is_vector
returns-then-is_vector c word = (
  λ e. inr ((c.word_by.ensures word).0 e),
  λ m. elim m [
    | inl n ↦ absurd (both_ways (is_vector_group c.args.insn.now) (means_scalar word c.args.insn.now n)
        (sym c.is_vector.ensures ∙ c.if-is_vector.true))
    | inr n ↦ (c.word_by.ensures word).1 n
  ],
)

pub returns-else-is_vector : goal.returns-else-is_vector
returns-else-is_vector c word = (
  λ e. inl ((c.word_by-else-is_vector.ensures word).0 e),
  λ m. elim m [
    | inl n ↦ (c.word_by-else-is_vector.ensures word).1 n
    | inr n ↦ absurd (both_ways (is_vector_group c.args.insn.now) (sym c.is_vector.ensures ∙ c.if-is_vector.false)
        (means_vector word c.args.insn.now n))
  ],
)
