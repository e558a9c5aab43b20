use Rattle.std.proofs.Common.{◌≡◌, ◌↔◌, ℕ, ◌<◌, ◌^◌, Option, Some, None, refl, sym, ap, ap₂, ◌∙◌, arith}
use Rattle.std.specs.Option.{option_or}
use Rattle.sm_types.specs.declared.insn.Insn.{Insn}
use Rattle.a64_table.specs.Table.{meaning_of}
use Rattle.sve_table.specs.Table.{vector_meaning_of}
use Rattle.a64_encode.specs.Either.{MeansEither, instruction_of}
use Rattle.a64_encode.proofs.Either.{either}
use Rattle.insn_decode.proofs.either.decode.Goals as goal

by_rows : (word : ℕ) (result : Option Insn) → word < 2 ^ 32 → result ≡ instruction_of word → (it : Insn) → (result ≡ Some it)
    ↔ MeansEither word it
by_rows word result lt e it = (λ h. (either word it lt).0 (sym e ∙ h), λ m. e ∙ (either word it lt).1 m)

by_scalar : (word : ℕ) (insn : Insn) → Some insn ≡ meaning_of word → Some insn ≡ instruction_of word
unfolding instruction_of
by_scalar word insn e = ap (λ o. option_or o (vector_meaning_of word)) e

by_vector : (word : ℕ) (result : Option Insn) → None ≡ meaning_of word → result ≡ vector_meaning_of word → result ≡ instruction_of word
unfolding instruction_of
by_vector word result e f = f ∙ ap (λ o. option_or o (vector_meaning_of word)) e

pub returns-in-Some-clause-value : goal.returns-in-Some-clause-value
returns-in-Some-clause-value c = by_scalar c.args.word _ c.in-Some.ensures.value

pub returns-in-Some-clause-rows : goal.returns-in-Some-clause-rows
returns-in-Some-clause-rows c = by_rows c.args.word _ (omega arith) (by_scalar c.args.word _ c.in-Some.ensures.value)

pub returns-in-None-clause-value : goal.returns-in-None-clause-value
returns-in-None-clause-value c = by_vector c.args.word _ c.in-None.ensures.value c.decode_vector.ensures.value

pub returns-in-None-clause-rows : goal.returns-in-None-clause-rows
returns-in-None-clause-rows c =
    by_rows c.args.word _ (omega arith) (by_vector c.args.word _ c.in-None.ensures.value c.decode_vector.ensures.value)
