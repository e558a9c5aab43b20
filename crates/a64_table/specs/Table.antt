-- The table of the scalar instructions, and what a word means by it.
use Rattle.std.specs.Prelude.{ℕ, Option}
use Rattle.sm_types.specs.declared.insn.Insn.{Insn}
use Rattle.insn_forms.specs.Tables.{Table, meaning_by}
use Rattle.a64_table.specs.declared.operation.Operation.{Operation}
use Rattle.a64_table.specs.declared.rows.TheConstants.{SCALAR_LINES}
use Rattle.a64_table.specs.Conditions.{fits_of}
use Rattle.a64_table.specs.Named.{named}

unfoldable pub scalar : Table Operation Insn
scalar = record { lines = SCALAR_LINES; fits = fits_of; insn = named }

-- the scalar instruction that a word of 32 bits means
unfoldable pub meaning_of : ℕ → Option Insn
meaning_of word = meaning_by scalar word
