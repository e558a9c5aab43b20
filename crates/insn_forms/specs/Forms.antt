-- Words as fixed bits and fields.
-- Source: DDI 0487, C4: an encoding diagram has each bit of a word once, fixed or in a field.
use Rattle.std.proofs.Common.{zero, suc}
use Rattle.std.specs.Prelude.{ℕ, ◌-◌, ◌%◌, ◌^◌, ◌==◌, ◌&&◌, Bool, true, false, nat_lt, bit_and, bit_or}
use Rattle.std.specs.Prelude.{if◌then◌else◌, ℤ, pos, ◌-ℤ◌, int_le, int_lt, List, [], ◌∷◌, map, Option, Some}
use Rattle.std.specs.Prelude.{None}
use Rattle.std.specs.Int.{cast_unsigned, w32}
use Rattle.std.specs.List.{list_all}
use Rattle.insn_forms.specs.declared.field.Field.{Field}
use Rattle.insn_forms.specs.declared.number.Number.{Number}
use Rattle.insn_forms.specs.declared.number.Number.TheVariants.{Unsigned, Signed}
use Rattle.insn_forms.specs.Fields.{bits_of, field_in, placed, mask_of, is_field}

-- the numbers of the fields in a word
abbrev pub fields_in : List Field → ℕ → List ℕ
fields_in fs word = map (λ f. field_in f word) fs

abbrev pub flag_bit : Bool → ℕ
flag_bit b = if b then 1 else 0

abbrev pub flag_number : Bool → Number
flag_number b = Unsigned (flag_bit b)

abbrev pub unsigned_number : ℕ → Number
unsigned_number n = Unsigned n

-- eight numbers, those and zeros
unfoldable pub padded : ℕ → List Number → List Number
padded zero ns = []
padded (suc k) [] = Unsigned 0 ∷ padded k []
padded (suc k) (n ∷ ns) = n ∷ padded k ns

-- the numbers of registers and of other fields without a sign
abbrev pub unsigned : List ℕ → List Number
unsigned [] = []
unsigned (n ∷ ns) = Unsigned n ∷ unsigned ns

-- the bits of a number in a field
unfoldable pub bits : Field → Number → ℕ
bits f (Unsigned n) = n
bits f (Signed z) = cast_unsigned w32 z % 2 ^ bits_of f

unfoldable pub all_bits : List Field → List Number → List ℕ
all_bits [] ns = []
all_bits (f ∷ fs) [] = []
all_bits (f ∷ fs) (n ∷ ns) = bits f n ∷ all_bits fs ns

-- a number of so many bits in two's complement
unfoldable pub is_signed : ℕ → ℤ → Bool
is_signed width z =
    nat_lt 0 width && int_le (pos 0 -ℤ pos (2 ^ (width - 1))) z && int_lt z (pos (2 ^ (width - 1)))

-- the number is one that the field can have
unfoldable pub is_in : Field → Number → Bool
is_in f (Unsigned n) = nat_lt n (2 ^ bits_of f)
is_in f (Signed z) = is_signed (bits_of f) z

unfoldable pub are_in : List Field → List Number → Bool
are_in [] [] = true
are_in [] (n ∷ ns) = false
are_in (f ∷ fs) [] = false
are_in (f ∷ fs) (n ∷ ns) = is_in f n && are_in fs ns

-- the word of the fixed bits and the numbers, each at the place of its field; none where one of them is not
-- in its field
unfoldable pub word_in : ℕ → List Field → List Number → Option ℕ
word_in word [] [] = Some word
word_in word [] (n ∷ ns) = None
word_in word (f ∷ fs) [] = None
word_in word (f ∷ fs) (n ∷ ns) = if is_in f n then word_in (bit_or word (placed f (bits f n))) fs ns else None

-- the fixed bits and the fields are the 32 bits of a word, each once
unfoldable pub fills : ℕ → List Field → Bool
fills mask [] = mask == 2 ^ 32 - 1
fills mask (f ∷ fs) = (bit_and mask (mask_of f) == 0) && fills (bit_or mask (mask_of f)) fs

-- the same, with values of the fixed bits alone
unfoldable pub is_form : ℕ → ℕ → List Field → Bool
is_form mask value fs = list_all is_field fs && (bit_and value mask == value) && fills mask fs
