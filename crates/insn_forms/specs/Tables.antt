-- What a word means by a table of lines.
-- Source: DDI 0487, C4: an encoding is the fixed bits of its diagram, its fields by their names, and what its
-- page says of them.
use Rattle.std.specs.Prelude.{ℕ, ◌<◌, ◌^◌, ◌≡◌, ◌==◌, ◌&&◌, Bool, true, false, List, [], ◌∷◌, Option, Some}
use Rattle.std.specs.Prelude.{None, slice_get, bit_and, ℤ, if◌then◌else◌}
use Rattle.std.specs.List.{find}
use Rattle.insn_forms.specs.declared.field.Field.{Field}
use Rattle.insn_forms.specs.declared.line.Line.{Line}
use Rattle.insn_forms.specs.Fields.{bits_of, field_in, signed_value}

-- a table: its lines of operations O, and by the numbers of the fields an operation's condition and its
-- instruction
pub record Table (O I : Type 0) : Type 0 where
  pub lines : List (Line O)
  pub fits : O → (Field → ℕ) → Bool
  pub insn : O → (Field → ℕ) → (Field → ℤ) → I

-- the numbers of the fields in a word, without a sign
abbrev pub numbers_in : ℕ → Field → ℕ
numbers_in word = λ f. field_in f word

-- and in two's complement
abbrev pub signed_numbers_in : ℕ → Field → ℤ
signed_numbers_in word = λ f. signed_value (bits_of f) (field_in f word)

-- the word meets the condition of the operation
abbrev pub fits_in : {O I : Type 0} → Table O I → O → ℕ → Bool
fits_in t o word = t.fits o (numbers_in word)

-- the instruction of the operation with the word's fields
abbrev pub insn_in : {O I : Type 0} → Table O I → O → ℕ → I
insn_in t o word = t.insn o (numbers_in word) (signed_numbers_in word)

-- what the operation gives the word: its instruction, if the word meets its condition
abbrev pub given : {O I : Type 0} → Table O I → O → ℕ → Option I
given t o word = if fits_in t o word then Some (insn_in t o word) else None

-- a line of the table matches the word, which meets its condition, and the instruction is its operation's
-- with the word's fields
pub record Means {O I : Type 0} (t : Table O I) (word : ℕ) (it : I) : Type 0 where
  pub is_word : word < 2 ^ 32
  pub place : ℕ
  pub line : Line O
  pub listed : slice_get t.lines place ≡ Some line
  pub matches : bit_and word line.mask ≡ line.value
  pub fits : fits_in t line.operation word ≡ true
  pub gives : it ≡ insn_in t line.operation word

-- some word means the instruction
pub record HasWord {O I : Type 0} (t : Table O I) (it : I) : Type 0 where
  pub word : ℕ
  pub means : Means t word it

-- the line matches the word, which meets its condition
unfoldable pub stands_for : {O I : Type 0} → Table O I → Line O → ℕ → Bool
stands_for t line word = (bit_and word line.mask == line.value) && fits_in t line.operation word

-- the instruction that the first of some lines to stand for the word gives it
unfoldable pub meaning_in : {O I : Type 0} → Table O I → List (Line O) → ℕ → Option I
meaning_in t [] word = None
meaning_in t (line ∷ lines) word =
    if stands_for t line word then Some (insn_in t line.operation word) else meaning_in t lines word

-- the instruction that a word of 32 bits means
unfoldable pub meaning_by : {O I : Type 0} → Table O I → ℕ → Option I
meaning_by t word = meaning_in t t.lines word

-- two places of the table whose lines match the word, which meets their conditions, are one
abbrev pub HasAtMostOneLine : {O I : Type 0} → Table O I → ℕ → Type 0
HasAtMostOneLine {O = O} t word =
    (i j : ℕ) (r s : Line O) → slice_get t.lines i ≡ Some r → slice_get t.lines j ≡ Some s
    → bit_and word r.mask ≡ r.value → bit_and word s.mask ≡ s.value
    → fits_in t r.operation word ≡ true → fits_in t s.operation word ≡ true → i ≡ j

-- the line has these fixed bits
abbrev pub has_bits : {O : Type 0} → ℕ → ℕ → Line O → Bool
has_bits mask value line = (line.mask == mask) && (line.value == value)

-- the word meets the condition of the line, if there is one
abbrev pub fits_line : {O I : Type 0} → Table O I → ℕ → Option (Line O) → Bool
fits_line t word None = false
fits_line t word (Some line) = fits_in t line.operation word

-- the word meets the condition of the line with these fixed bits; none does where no line has them
unfoldable pub fits_with : {O I : Type 0} → Table O I → ℕ → ℕ → ℕ → Bool
fits_with t mask value word = fits_line t word (find (has_bits mask value) t.lines)
