-- The shapes of indices in a list, and the operands that lie within a word.
use Rattle.std.specs.Prelude.{ℕ, ◌+◌, ◌-◌, Bool, true, ◌&&◌, nat_lt, List, [], ◌∷◌, Option, Some, None}
use Rattle.std.specs.Prelude.{slice_get, slice_index, take, drop, if◌then◌else◌}
use Rattle.std.specs.Option.{option_or}
use Rattle.insn_text.specs.declared.item.Kind.{Kind}
use Rattle.insn_text.specs.declared.item.Kind.TheVariants.{Punctuation, Sized}
use Rattle.insn_text.specs.declared.item.Item.{Item}
use Rattle.insn_text.specs.declared.item.Shape.{Shape}
use Rattle.insn_forms.specs.Fields.{is_field}
use Rattle.insn_text.specs.Texts.{prints}

-- the shape, if the word is printed in it
unfoldable pub if_printed : ℕ → Option Shape → Option Shape
if_printed word None = None
if_printed word (Some s) = if prints word s then Some s else None

-- the first of the shapes of these indices in which the word is printed
unfoldable pub first_at : ℕ → List Shape → List ℕ → Option Shape
first_at word shapes [] = None
first_at word shapes (index ∷ indices) =
    option_or (if_printed word (slice_get shapes index)) (first_at word shapes indices)

-- the indices from one start to the next
unfoldable pub part_of : List ℕ → List ℕ → ℕ → List ℕ
part_of indices starts byte =
    take (slice_index starts (byte + 1) - slice_index starts byte) (drop (slice_index starts byte) indices)

-- punctuation is a character of ASCII, and the number of a register has few bits
unfoldable pub is_writable : Kind → Bool
is_writable (Punctuation c) = nat_lt c 128
is_writable (Sized file bits suffix) = nat_lt bits 32
is_writable other = true

-- the operand's field lies within a word, and its kind is written
unfoldable pub is_sized : Item → Bool
is_sized i = is_field i.field && is_writable i.kind
