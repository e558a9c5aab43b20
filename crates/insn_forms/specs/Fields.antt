-- The fields of a word of 32 bits.
-- Source: DDI 0487, C4, the encoding diagrams, whose fields are runs of bits; signed ones are in two's
-- complement.
use Rattle.std.specs.Prelude.{ℕ, ◌+◌, ◌-◌, ◌*◌, ◌/◌, ◌%◌, ◌^◌, ◌==◌, ◌&&◌, Bool, nat_lt, bit_and}
use Rattle.std.specs.Prelude.{if◌then◌else◌, ℤ, pos, ◌-ℤ◌, List, [], ◌∷◌}
use Rattle.insn_forms.specs.declared.field.Field.{Field}
use Rattle.insn_forms.specs.declared.field.Fields.{Fields}

-- the places of a row's fields as a list
unfoldable pub list_of : Fields → List Field
list_of it = it.a ∷ it.b ∷ it.c ∷ it.d ∷ it.e ∷ it.f ∷ it.g ∷ it.h ∷ []

-- the bits of the word from `low` on, as many as `width`
unfoldable pub field_of : ℕ → ℕ → ℕ → ℕ
field_of word low width = word / 2 ^ low % 2 ^ width

-- whether the bit is 1
unfoldable pub bit_of : ℕ → ℕ → Bool
bit_of word place = field_of word place 1 == 1

-- the number that so many bits are in two's complement
unfoldable pub signed_value : ℕ → ℕ → ℤ
signed_value width bits = if nat_lt bits (2 ^ (width - 1)) then pos bits else pos bits -ℤ pos (2 ^ width)

-- how many bits the field has
abbrev pub bits_of : Field → ℕ
bits_of f = f.width + f.upper_width

-- the number of the field in a word
unfoldable pub field_in : Field → ℕ → ℕ
field_in f word = field_of word f.upper_low f.upper_width * 2 ^ f.width + field_of word f.low f.width

-- the number at the field's place in a word
unfoldable pub placed : Field → ℕ → ℕ
placed f n = n / 2 ^ f.width % 2 ^ f.upper_width * 2 ^ f.upper_low + n % 2 ^ f.width * 2 ^ f.low

abbrev pub upper_mask : Field → ℕ
upper_mask f = (2 ^ f.upper_width - 1) * 2 ^ f.upper_low

abbrev pub lower_mask : Field → ℕ
lower_mask f = (2 ^ f.width - 1) * 2 ^ f.low

-- the bits of a word that the field is
unfoldable pub mask_of : Field → ℕ
mask_of f = upper_mask f + lower_mask f

-- the field has fewer than 31 bits, all of them in a word of 32 bits, and each once
unfoldable pub is_field : Field → Bool
is_field f =
    nat_lt (bits_of f) 31 && nat_lt f.low 32 && nat_lt f.upper_low 32 && nat_lt (mask_of f) (2 ^ 32)
    && (bit_and (upper_mask f) (lower_mask f) == 0)
