-- What a flat instruction says of the instruction that it is of.
use Rattle.std.proofs.Common.{◌≡◌, ℕ, Option, Some, None, sym, IsTrue, subst}
use Rattle.std.specs.Prelude.{MatchOption}
use Rattle.std.proofs.lemmas.Option.{same_Some}
use Rattle.sm_types.specs.declared.scalars.Scalars.{Scalars}
use Rattle.sm_types.specs.declared.insn.Insn.{Insn}
use Rattle.a64_table.specs.Ranges.{IsInRow}
use Rattle.scalar_exec.specs.Step.{is_scalar}
use Rattle.scalar_exec.specs.Flat.{first_of, StepsTo}

-- the fields of an instruction that is said are in their ranges
pub row_of : (said rest : Option Insn) (it : Insn) → first_of said rest ≡ Some it → (IsTrue (is_scalar it) → IsInRow it)
    → MatchOption said Unit (λ x. IsTrue (is_scalar x) → IsInRow x)
row_of None rest it is h = tt
row_of (Some x) rest it is h =
    let P : Insn → Type 0 = λ y. IsTrue (is_scalar y) → IsInRow y in subst P (sym (same_Some x it is)) h

-- what is executed is the instruction
pub steps_of : (said rest : Option Insn) (it : Insn) (base at next : ℕ) (old new : Scalars) → first_of said rest ≡ Some it
    → MatchOption said ((Some next ≡ None) × (new ≡ old)) (λ x. StepsTo x base at (Some next) old new)
    → StepsTo it base at (Some next) old new
steps_of None rest it base at next old new is h = let no = h.0 in cc
steps_of (Some x) rest it base at next old new is h =
    let P : Insn → Type 0 = λ y. StepsTo y base at (Some next) old new in subst P (same_Some x it is) h

abbrev nowhere : Option ℕ
nowhere = None

-- or nothing is
pub rests_of : (said : Option Insn) (base at : ℕ) (old new : Scalars)
    → MatchOption said ((nowhere ≡ None) × (new ≡ old)) (λ x. StepsTo x base at nowhere old new) → new ≡ old
rests_of None base at old new h = h.1
rests_of (Some x) base at old new h = absurd h.1
