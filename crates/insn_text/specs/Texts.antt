-- The text of an instruction: its mnemonic, and the numbers of its fields as registers, words, numbers and
-- distances.
-- Source: DDI 0487, C1.2 (assembly language symbols) and the pages of C6.2; which text is printed, and that
-- distances are in bytes from the instruction, is this project's own.
use Rattle.std.specs.Prelude.{ℕ, ◌+◌, ◌-◌, ◌*◌, ◌/◌, ◌%◌, ◌^◌, Bool, true, false, not, ◌&&◌, ◌||◌, ◌==◌}
use Rattle.std.specs.Prelude.{nat_lt, List}
use Rattle.std.specs.Prelude.{[], ◌∷◌, ◌++◌, Option, Some, None, bit_and, slice_get, take, drop}
use Rattle.std.specs.Prelude.{if◌then◌else◌, decimal, codes}
use Rattle.std.specs.List.{find}
use Rattle.std.specs.Fmt.{digits}
use Rattle.bit_ops.specs.Masks.{bit_mask_of}
use Rattle.insn_forms.specs.Fields as fields
use Rattle.insn_forms.specs.Fields.{field_of}
use Rattle.insn_text.specs.declared.item.Kind.{Kind}
use Rattle.insn_text.specs.declared.item.Kind.TheVariants.{Punctuation, Keyword, Register, Unsigned, Signed}
use Rattle.insn_text.specs.declared.item.Kind.TheVariants.{Distance}
use Rattle.insn_text.specs.declared.item.Kind.TheVariants.{Mask, SignedMask, ShiftLeft, Opposite, Halfword}
use Rattle.insn_text.specs.declared.item.Kind.TheVariants.{Sized, SliceRegister, Index, Pattern, Descending}
use Rattle.insn_text.specs.declared.item.VectorFile.{VectorFile}
use Rattle.insn_text.specs.declared.item.VectorFile.TheVariants as vector
use Rattle.insn_text.specs.declared.item.RegisterFile.{RegisterFile}
use Rattle.insn_text.specs.declared.item.RegisterFile.TheVariants.{X, W}
use Rattle.insn_text.specs.declared.item.Item.{Item}
use Rattle.insn_text.specs.declared.item.ItemList.{ItemList}
use Rattle.insn_text.specs.declared.item.ItemList.TheVariants as list
use Rattle.insn_text.specs.declared.item.Shape.{Shape}
use Rattle.insn_text.specs.declared.item.Text.{Text}
use Rattle.insn_text.specs.declared.keywords.TheConstants.{KEYWORDS, MNEMONICS, SUFFIXES}
use Rattle.insn_text.specs.declared.items.TheConstants.{ITEMS, MATRIX_ITEMS, VECTOR_ITEMS}
use Rattle.insn_text.specs.declared.shapes.TheConstants.{SHAPES}

-- ---- words

unfoldable pub text_in : Option Text → List ℕ
text_in None = []
text_in (Some t) = take t.length t.bytes

-- the text of an index in a table
abbrev pub text_at : List Text → ℕ → List ℕ
text_at texts index = text_in (slice_get texts index)

-- ---- numbers

-- a signed number of so many bits is not negative
unfoldable pub is_positive : ℕ → ℕ → Bool
is_positive bits field = nat_lt field (2 ^ (bits - 1))

-- the size of a signed number of so many bits, without its sign
unfoldable pub size_of : ℕ → ℕ → ℕ
size_of bits field = if is_positive bits field then field else 2 ^ bits - field

-- a number in hexadecimal
abbrev pub hexadecimal : ℕ → List ℕ
hexadecimal n = digits 16 false n

-- the mask of the fields N, immr and imms, 13 bits, or of immr and imms alone
unfoldable pub mask_in : Bool → ℕ → Option ℕ
mask_in wide field = bit_mask_of (field_of field 12 1 == 1) (field_of field 0 6) (field_of field 6 6) wide

unfoldable pub mask_text : Option ℕ → List ℕ
mask_text None = []
mask_text (Some mask) = codes "#0x" ++ hexadecimal mask

unfoldable pub signed_text : Bool → ℕ → List ℕ
signed_text true n = codes "#" ++ decimal n
signed_text false n = codes "#-" ++ decimal n

unfoldable pub distance_text : Bool → ℕ → List ℕ
distance_text true n = codes ".+" ++ decimal n
distance_text false n = codes ".-" ++ decimal n

-- the letter of a file of registers
unfoldable pub file_text : RegisterFile → List ℕ
file_text X = codes "x"
file_text W = codes "w"

-- a register: the letter of its file and its number, and for number 31 the keyword of an index
unfoldable pub register_text : RegisterFile → ℕ → ℕ → List ℕ
register_text file last number =
    if number == 31 then text_at KEYWORDS last else file_text file ++ decimal number

-- the letters of a file of vectors, predicates or ZA
unfoldable pub vector_file_text : VectorFile → List ℕ
vector_file_text vector.Z = codes "z"
vector_file_text vector.P = codes "p"
vector_file_text vector.B = codes "b"
vector_file_text vector.H = codes "h"
vector_file_text vector.S = codes "s"
vector_file_text vector.D = codes "d"
vector_file_text vector.Za = codes "za"

-- such a register: the letters of its file, its number, and the suffix of an index
unfoldable pub sized_text : VectorFile → ℕ → ℕ → List ℕ
sized_text file number suffix =
    vector_file_text file ++ (decimal number ++ text_at SUFFIXES suffix)

-- a pattern has a word: 0 to 13 and 29 to 31
unfoldable pub is_named_pattern : ℕ → Bool
is_named_pattern field = nat_lt field 14 || nat_lt 28 field

-- its index among the keywords: those from 29 on follow that of 13
unfoldable pub pattern_index : ℕ → ℕ
pattern_index field = if nat_lt field 14 then field else field - 15

unfoldable pub pattern_text : ℕ → ℕ → List ℕ
pattern_text first field =
    if is_named_pattern field then text_at KEYWORDS (first + pattern_index field) else codes "#"
    ++ decimal field

-- the text of a field of so many bits; the kinds of aliases are never printed
unfoldable pub kind_text : Kind → ℕ → ℕ → List ℕ
kind_text (Punctuation c) bits field = c ∷ []
kind_text (Keyword first count) bits field = text_at KEYWORDS (first + field)
kind_text (Register file last) bits field = register_text file last field
kind_text (Sized file number_bits suffix) bits field =
    sized_text file (field % 2 ^ number_bits) (suffix + field / 2 ^ number_bits)
kind_text SliceRegister bits field = codes "w" ++ decimal (12 + field)
kind_text Index bits field = decimal field
kind_text (Pattern first) bits field = pattern_text first field
kind_text (Descending from) bits field = codes "#" ++ decimal (from - field)
kind_text (Unsigned base scale most) bits field = codes "#" ++ decimal (field * scale + base)
kind_text (Signed scale) bits field = signed_text (is_positive bits field) (size_of bits field * scale)
kind_text (Distance scale) bits field = distance_text (is_positive bits field) (size_of bits field * scale)
kind_text (Mask wide) bits field = mask_text (mask_in wide field)
kind_text (SignedMask wide) bits field = []
kind_text (ShiftLeft wide) bits field = []
kind_text (Opposite first count) bits field = []
kind_text (Halfword wide inverted) bits field = []

-- ---- operands

abbrev pub bits_of : Item → ℕ
bits_of i = fields.bits_of i.field

-- the number of an operand's field in a word
abbrev pub field_in : Item → ℕ → ℕ
field_in i word = fields.field_in i.field word

unfoldable pub item_text : ℕ → Item → List ℕ
item_text word i = kind_text i.kind (bits_of i) (field_in i word)

unfoldable pub is_punctuation : Kind → Bool
is_punctuation (Punctuation c) = true
is_punctuation other = false

unfoldable pub is_comma : Kind → Bool
is_comma (Punctuation c) = c == 44
is_comma other = false

-- a space stands after a comma, and between two operands with no punctuation between them
unfoldable pub gap : Kind → Kind → List ℕ
gap before after =
    if is_comma before || (not (is_punctuation before) && not (is_punctuation after)) then codes " " else []

-- the operands that follow one of that kind
unfoldable pub items_text : ℕ → Kind → List Item → List ℕ
items_text word before [] = []
items_text word before (i ∷ is) = gap before i.kind ++ (item_text word i ++ items_text word i.kind is)

-- ---- shapes

-- the operands of a list
unfoldable pub items_in : ItemList → List Item
items_in list.Scalar = ITEMS
items_in list.Vector = VECTOR_ITEMS
items_in list.Matrix = MATRIX_ITEMS

-- the operands of a shape
unfoldable pub items_of : Shape → List Item
items_of s = take s.count (drop s.first (items_in s.list))

-- the text of a word of the shape; a space stands after the mnemonic, as after a comma
unfoldable pub shape_text : Shape → ℕ → List ℕ
shape_text s word = text_at MNEMONICS s.mnemonic ++ items_text word (Punctuation 44) (items_of s)

-- the word has the fixed bits of the shape, which is no alias
unfoldable pub prints : ℕ → Shape → Bool
prints word s = not s.alias && (bit_and word s.mask == s.value)

-- the shape in which a word is printed
unfoldable pub printed_shape : ℕ → Option Shape
printed_shape word = find (prints word) SHAPES

unfoldable pub text_of_shape : ℕ → Option Shape → List ℕ
text_of_shape word None = []
text_of_shape word (Some s) = shape_text s word

-- the text of a word
unfoldable pub text_of : ℕ → List ℕ
text_of word = text_of_shape word (printed_shape word)
