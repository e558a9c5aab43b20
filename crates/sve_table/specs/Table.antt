-- The table of the vector instructions, and what a word means by it.
use Rattle.std.specs.Prelude.{ℕ, Option}
use Rattle.sm_types.specs.declared.insn.Insn.{Insn}
use Rattle.insn_forms.specs.Tables.{Table, meaning_by}
use Rattle.sve_table.specs.declared.operation.VectorOperation.{VectorOperation}
use Rattle.sve_table.specs.declared.rows.TheConstants.{VECTOR_LINES}
use Rattle.sve_table.specs.Conditions.{fits_of}
use Rattle.sve_table.specs.Named.{named}

unfoldable pub vector : Table VectorOperation Insn
vector = record { lines = VECTOR_LINES; fits = fits_of; insn = named }

-- the vector instruction that a word of 32 bits means
unfoldable pub vector_meaning_of : ℕ → Option Insn
vector_meaning_of word = meaning_by vector word
