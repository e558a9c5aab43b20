-- What the operands of the tables meet, so that their fields can be read.
-- Source: DDI 0487, C6.2 and C8.2: the widths of the fields, and the factors of the offsets.
use Rattle.std.specs.Prelude.{ℕ, ◌==◌, Bool, true, false, ◌&&◌, nat_lt, nat_le}
use Rattle.insn_forms.specs.Fields.{is_field}
use Rattle.insn_text.specs.declared.item.Kind.{Kind}
use Rattle.insn_text.specs.declared.item.Kind.TheVariants as kind
use Rattle.insn_text.specs.declared.item.Rule.{Rule}
use Rattle.insn_text.specs.declared.item.Rule.TheVariants.{Free}
use Rattle.insn_text.specs.declared.item.Item.{Item}
use Rattle.insn_text.specs.Texts.{bits_of}

-- a number has a factor, and a signed one a bit for its sign; a register's number is in its field
unfoldable pub has_factor : Kind → ℕ → Bool
has_factor (kind.Unsigned base scale most) bits = nat_lt 0 scale
has_factor (kind.Signed scale) bits = nat_lt 0 scale && nat_lt 0 bits
has_factor (kind.Distance scale) bits = nat_lt 0 scale && nat_lt 0 bits
has_factor (kind.Sized file few first) bits = nat_le few bits
has_factor other bits = true

unfoldable pub is_sound : Item → Bool
is_sound i = has_factor i.kind (bits_of i) && is_field i.field

abbrev pub is_free : Rule → Bool
is_free Free = true
is_free other = false

-- the operand holds no field, and has no rule
unfoldable pub is_bare : Item → Bool
is_bare i = (i.field.width == 0) && (i.field.upper_width == 0) && is_free i.rule
