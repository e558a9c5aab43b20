-- The instruction that a word means by the rows of either table.
-- Source: DDI 0487, C4.1: the top-level encodings, of which SVE and SME have their own.
use Rattle.std.specs.Prelude.{ℕ, ◌≡◌, ◌⊎◌, Option, Some, slice_get, bit_and, true}
use Rattle.std.specs.Option.{option_or}
use Rattle.sm_types.specs.declared.insn.Insn.{Insn}
use Rattle.insn_forms.specs.declared.line.Line.{Line}
use Rattle.insn_forms.specs.Tables.{Table, Means, HasAtMostOneLine, fits_in}
use Rattle.a64_table.specs.Table.{scalar, meaning_of}
use Rattle.sve_table.specs.Table.{vector, vector_meaning_of}

-- a row of either table gives the word this instruction
abbrev pub MeansEither : ℕ → Insn → Type 0
MeansEither word it = Means scalar word it ⊎ Means vector word it

-- the instruction that a word of 32 bits means
unfoldable pub instruction_of : ℕ → Option Insn
instruction_of word = option_or (meaning_of word) (vector_meaning_of word)

-- some word means the instruction
pub record HasEitherWord (it : Insn) : Type 0 where
  pub word : ℕ
  pub means : MeansEither word it

-- a line of the table matches the word, which meets its condition
pub record Stands {O : Type 0} (t : Table O Insn) (word : ℕ) : Type 0 where
  pub place : ℕ
  pub line : Line O
  pub listed : slice_get t.lines place ≡ Some line
  pub matches : bit_and word line.mask ≡ line.value
  pub fits : fits_in t line.operation word ≡ true

-- each table has at most one row that matches and fits the word, and not both have one
pub record HasAtMostOneRowOfBoth (word : ℕ) : Type 0 where
  pub scalar_row : HasAtMostOneLine scalar word
  pub vector_row : HasAtMostOneLine vector word
  pub apart : Stands scalar word → Stands vector word → ⊥
