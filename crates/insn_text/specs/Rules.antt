-- What the fields of a word are to meet for a text of it to be read, and which words have a text.
-- Source: DDI 0487, C6.2: the ranges of the fields, and the registers that write back to a base or load a
-- pair.
use Rattle.std.specs.Prelude.{◌≡◌, ℕ, ◌^◌, Bool, true, not, ◌&&◌, ◌||◌, ◌==◌, nat_lt, nat_le, Some}
use Rattle.std.specs.Prelude.{if◌then◌else◌}
use Rattle.std.specs.List.{list_all}
use Rattle.insn_forms.specs.Fields.{field_of}
use Rattle.bit_ops.specs.Masks.{are_mask_fields}
use Rattle.insn_text.specs.declared.item.Kind.{Kind}
use Rattle.insn_text.specs.declared.item.Kind.TheVariants.{Punctuation, Keyword, Register, Sized, Unsigned}
use Rattle.insn_text.specs.declared.item.Kind.TheVariants.{Mask}
use Rattle.insn_text.specs.declared.item.Kind.TheVariants.{Pattern, Descending, SignedMask, ShiftLeft}
use Rattle.insn_text.specs.declared.item.Kind.TheVariants.{Opposite, Halfword}
use Rattle.insn_text.specs.declared.item.Rule.{Rule}
use Rattle.insn_text.specs.declared.item.Rule.TheVariants.{Free, SecondApart, BaseApart, BasePairApart}
use Rattle.insn_text.specs.declared.item.Rule.TheVariants.{OffsetGiven}
use Rattle.insn_text.specs.declared.item.Item.{Item}
use Rattle.insn_text.specs.declared.item.Shape.{Shape}
use Rattle.insn_text.specs.Texts.{bits_of, field_in, items_of, printed_shape}

-- the kind has a text for the number of the field: one of its words, a number up to its greatest or not above
-- that from which it counts down, a pattern of five bits, or a mask
unfoldable pub is_within : Kind → ℕ → Bool
is_within (Keyword first count) field = nat_lt field count
is_within (Unsigned base scale most) field = nat_le field most
is_within (Pattern first) field = nat_lt field 32
is_within (Descending from) field = nat_lt field from
is_within (Mask wide) field =
    are_mask_fields (field_of field 12 1 == 1) (field_of field 0 6) (field_of field 6 6) wide
is_within other field = true

-- a field of so many bits has a number for each word, register and number that a text may have for the kind,
-- and there is one: so an operand without a field is one word or one number alone, and punctuation has no
-- field
unfoldable pub has_room : Kind → ℕ → Bool
has_room (Punctuation c) bits = bits == 0
has_room (Keyword first count) bits = nat_lt 0 count && nat_le count (2 ^ bits)
has_room (Register file last) bits = nat_le 5 bits
has_room (Sized file number_bits suffix) bits = nat_le number_bits bits
has_room (Pattern first) bits = nat_le 5 bits
has_room (Descending from) bits = nat_le from (2 ^ bits)
has_room (Unsigned base scale most) bits = nat_lt most (2 ^ bits)
has_room (Mask wide) bits = nat_le (if wide then 13 else 12) bits
has_room (SignedMask wide) bits = nat_le (if wide then 13 else 12) bits
has_room (ShiftLeft wide) bits = nat_le (if wide then 12 else 10) bits
has_room (Opposite first count) bits = nat_lt 0 count && nat_le count (2 ^ bits)
has_room (Halfword wide inverted) bits = nat_le (if wide then 18 else 17) bits
has_room other bits = true

-- so has each operand of the shape
unfoldable pub have_room : Shape → Bool
have_room s = list_all (λ i. has_room i.kind (bits_of i)) (items_of s)

-- Rn 9:5 is SP, or not the number
abbrev pub is_base_apart : ℕ → ℕ → Bool
is_base_apart word number = (field_of word 5 5 == 31) || not (field_of word 5 5 == number)

-- the registers of a word meet the rule
unfoldable pub meets : Rule → ℕ → Bool
meets Free word = true
meets SecondApart word = not (field_of word 0 5 == field_of word 10 5)
meets BaseApart word = is_base_apart word (field_of word 0 5)
meets BasePairApart word = is_base_apart word (field_of word 0 5) && is_base_apart word (field_of word 10 5)
meets OffsetGiven word = not (field_of word 16 5 == 31)

unfoldable pub is_sayable : ℕ → Item → Bool
is_sayable word i = is_within i.kind (field_in i word) && meets i.rule word

-- the word is printed in a shape whose operands have texts for its fields, and whose rules it meets
pub record IsPrinted (word : ℕ) : Type 0 where
  pub shape : Shape
  pub found : printed_shape word ≡ Some shape
  pub sayable : list_all (is_sayable word) (items_of shape) ≡ true
