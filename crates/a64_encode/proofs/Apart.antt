-- No row of the scalar table has the fixed bits of a row of the vector table.
use Rattle.std.proofs.Common.{◌≡◌, ℕ, Bool, true, refl}
use Rattle.std.specs.List.{list_all}
use Rattle.plain_lemmas.proofs.Lists.{list_all-get}
use Rattle.insn_forms.specs.declared.line.Line.{Line}
use Rattle.insn_forms.proofs.Tables.{differ, not_alike}
use Rattle.a64_table.specs.declared.operation.Operation.{Operation}
use Rattle.a64_table.specs.declared.rows.TheConstants.{SCALAR_LINES}
use Rattle.a64_table.specs.Table.{scalar}
use Rattle.sve_table.specs.declared.operation.VectorOperation.{VectorOperation}
use Rattle.sve_table.specs.declared.rows.TheConstants.{VECTOR_LINES}
use Rattle.sve_table.specs.Table.{vector}
use Rattle.a64_encode.specs.Either.{Stands}

unfoldable differs : Line VectorOperation → Line Operation → Bool
differs s r = differ r.mask r.value s.mask s.value

unfoldable differs_from_all : Line VectorOperation → Bool
differs_from_all s = list_all (differs s) SCALAR_LINES

all_differ : list_all differs_from_all VECTOR_LINES ≡ true
unfolding differs_from_all differs differ
all_differ = refl

pub apart : (word : ℕ) → Stands scalar word → Stands vector word → ⊥
unfolding scalar vector differs_from_all differs
apart word a b =
    let from_all : differs_from_all b.line ≡ true = list_all-get differs_from_all VECTOR_LINES b.place b.line all_differ b.listed in
    let two : differs b.line a.line ≡ true = list_all-get (differs b.line) SCALAR_LINES a.place a.line from_all a.listed in
    not_alike word a.line.mask a.line.value b.line.mask b.line.value two a.matches b.matches
