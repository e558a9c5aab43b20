-- The shapes are the texts of the table: each has the mnemonic, the operands and the bits of its text.
-- Source: DDI 0487, C6.2: the operands of each page, and the fields that its forms fix.
use Rattle.std.specs.Prelude.{ℕ, ◌+◌, ◌-◌, ◌^◌, ◌==◌, ◌&&◌, ◌||◌, Bool, true, false, not, nat_lt, List, []}
use Rattle.std.specs.Prelude.{◌∷◌, ◌++◌, length, Option, Some, None, slice_get, bit_and, bit_or}
use Rattle.std.specs.Prelude.{if◌then◌else◌}
use Rattle.std.specs.List.{list_all, list_any, filter_map, take_while, range_with_len}
use Rattle.std.specs.Str.{bytes_eq}
use Rattle.insn_forms.specs.declared.field.Field.{Field}
use Rattle.insn_forms.specs.declared.line.Line.{Line}
use Rattle.insn_forms.specs.Fields.{bits_of, list_of, mask_of, placed}
use Rattle.a64_table.specs.declared.operation.Operation.{Operation}
use Rattle.a64_table.specs.declared.rows.TheConstants.{SCALAR_LINES}
use Rattle.a64_table.specs.Numbers.{number_of}
use Rattle.sve_table.specs.declared.operation.VectorOperation.{VectorOperation}
use Rattle.sve_table.specs.declared.rows.TheConstants.{VECTOR_LINES}
use Rattle.sve_table.specs.Numbers.{number_of as vector_number_of}
use Rattle.insn_text.specs.declared.item.Kind.{Kind}
use Rattle.insn_text.specs.declared.item.Kind.TheVariants as kind
use Rattle.insn_text.specs.declared.item.Item.{Item}
use Rattle.insn_text.specs.declared.item.VectorFile.{VectorFile}
use Rattle.insn_text.specs.declared.item.VectorFile.TheVariants as vector
use Rattle.insn_text.specs.declared.item.Setting.{Setting}
use Rattle.insn_text.specs.declared.item.Shape.{Shape}
use Rattle.insn_text.specs.declared.item.Wording.{Wording}
use Rattle.insn_text.specs.declared.operand_items.TheConstants.{OPERANDS}
use Rattle.insn_text.specs.declared.texts.TheConstants.{BOTH, SINGLE, PAIRS, EXTENDED, ACCESSES, SIZED}
use Rattle.insn_text.specs.declared.texts.TheConstants.{ORDERED}
use Rattle.insn_text.specs.declared.vector_texts.TheConstants.{EACH_SIZE, NOT_BYTES, WORDS_AND_DOUBLEWORDS}
use Rattle.insn_text.specs.declared.vector_texts.TheConstants.{BY_REGISTER, LOW_PARTS, WITH_FLAGS, COUNTS}
use Rattle.insn_text.specs.declared.vector_texts.TheConstants.{LOADS, STORES, WHOLE_REGISTERS, SLICES, MOVES}
use Rattle.insn_text.specs.declared.vector_texts.TheConstants.{PRODUCTS, PLAIN}
use Rattle.insn_text.specs.declared.keywords.TheConstants.{MNEMONICS}
use Rattle.insn_text.specs.Texts.{text_in, text_at, items_of}
use Rattle.insn_text.specs.Operands.{is, is_long, rule_number, same}

-- the texts, in the order of their file
unfoldable pub texts : List (Wording Operation)
texts = BOTH ++ (SINGLE ++ (PAIRS ++ (EXTENDED ++ (ACCESSES ++ (SIZED ++ ORDERED)))))

-- those of the vector instructions
unfoldable pub vector_texts : List (Wording VectorOperation)
vector_texts =
    EACH_SIZE ++ (NOT_BYTES ++ (WORDS_AND_DOUBLEWORDS ++ (BY_REGISTER ++ (LOW_PARTS ++ (WITH_FLAGS ++ (COUNTS
    ++ (LOADS ++ (STORES ++ (WHOLE_REGISTERS ++ (SLICES ++ (MOVES ++ (PRODUCTS ++ PLAIN))))))))))))

-- ---- what a text sets and what its operands hold

-- the operands at the indices before the first 0
unfoldable pub operands_of : {O : Type 0} → Wording O → List Item
operands_of w = filter_map (slice_get OPERANDS) (take_while (nat_lt 0) w.operands)

abbrev same_setting : Option Setting → Option Setting
same_setting x = x

unfoldable pub settings_of : {O : Type 0} → Wording O → List Setting
settings_of w = filter_map same_setting w.set

-- the bits of the fields of operands
unfoldable pub held : List Item → ℕ
held [] = 0
held (i ∷ is) = bit_or (mask_of i.field) (held is)

-- the numbers that are set, in their fields
unfoldable pub set_bits : List Setting → ℕ
set_bits [] = 0
set_bits (x ∷ xs) = bit_or (placed x.field x.number) (set_bits xs)

unfoldable pub has_bits : Field → Bool
has_bits f = not (mask_of f == 0)

-- the field is among those of the line, and holds the number
unfoldable pub is_set_of : {O : Type 0} → Line O → Setting → Bool
is_set_of line x = (list_any (is x.field) (list_of line.fields) && nat_lt x.number (2 ^ bits_of x.field))

-- the text sets the field, or an operand holds bits of it
unfoldable pub is_said : {O : Type 0} → Wording O → Field → Bool
is_said w f =
    not (has_bits f) || list_any (λ x. is x.field f) (settings_of w)
    || not (bit_and (mask_of f) (held (operands_of w)) == 0)

-- each field of the line is set or said, and nothing else is; a set number has no bit that an operand holds
unfoldable pub is_whole : {O : Type 0} → Wording O → Line O → Bool
is_whole w line =
    list_all (is_set_of line) (settings_of w)
    && list_all (is_said w) (list_of line.fields)
    && (bit_and (held (operands_of w)) line.mask == 0)
    && (bit_and (held (operands_of w)) (set_bits (settings_of w)) == 0)

-- ---- a shape and its text

-- the shape fixes each bit that no operand holds: those of the line, and the numbers that are set
unfoldable pub fixes : {O : Type 0} → Wording O → Line O → Shape → Bool
fixes w line s =
    (s.mask + held (operands_of w) == 2 ^ 32 - 1)
    && (bit_and s.mask (held (operands_of w)) == 0)
    && (s.value == bit_or line.value (set_bits (settings_of w)))

unfoldable pub is_of_line : {O : Type 0} → (O → ℕ) → Wording O → Shape → Line O → Bool
is_of_line number w s line =
    (number line.operation == number w.operation) && is_whole w line && fixes w line s

-- the text of a vector instruction of an index after those of the scalar ones
unfoldable pub vector_text_at
    : List (Wording Operation) → List (Wording VectorOperation) → ℕ → Option (Wording VectorOperation)
vector_text_at ws vs index = slice_get vs (index - length ws)

unfoldable pub flag : Bool → ℕ
flag b = if b then 1 else 0

unfoldable pub file_number : VectorFile → ℕ
file_number vector.Z = 0
file_number vector.P = 1
file_number vector.B = 2
file_number vector.H = 3
file_number vector.S = 4
file_number vector.D = 5
file_number vector.Za = 6

-- a kind by numbers
unfoldable pub kind_numbers : Kind → List ℕ
kind_numbers (kind.Punctuation c) = 0 ∷ c ∷ []
kind_numbers (kind.Keyword first count) = 1 ∷ first ∷ count ∷ []
kind_numbers (kind.Register file last) = 2 ∷ flag (is_long file) ∷ last ∷ []
kind_numbers (kind.Unsigned base scale most) = 3 ∷ base ∷ scale ∷ most ∷ []
kind_numbers (kind.Signed scale) = 4 ∷ scale ∷ []
kind_numbers (kind.Distance scale) = 5 ∷ scale ∷ []
kind_numbers (kind.Mask wide) = 6 ∷ flag wide ∷ []
kind_numbers (kind.SignedMask wide) = 7 ∷ flag wide ∷ []
kind_numbers (kind.ShiftLeft wide) = 8 ∷ flag wide ∷ []
kind_numbers (kind.Opposite first count) = 9 ∷ first ∷ count ∷ []
kind_numbers (kind.Halfword wide inverted) = 10 ∷ flag wide ∷ flag inverted ∷ []
kind_numbers (kind.Sized file bits suffix) = 11 ∷ file_number file ∷ bits ∷ suffix ∷ []
kind_numbers kind.SliceRegister = 12 ∷ []
kind_numbers kind.Index = 13 ∷ []
kind_numbers (kind.Pattern first) = 14 ∷ first ∷ []
kind_numbers (kind.Descending from) = 15 ∷ from ∷ []

unfoldable pub same_item : Item → Item → Bool
same_item i j =
    bytes_eq (kind_numbers i.kind) (kind_numbers j.kind)
    && is i.field j.field && (rule_number i.rule == rule_number j.rule)

unfoldable pub same_items : List Item → List Item → Bool
same_items [] [] = true
same_items [] (j ∷ js) = false
same_items (i ∷ is) [] = false
same_items (i ∷ is) (j ∷ js) = same_item i j && same_items is js

-- the shape is that of the text
unfoldable pub is_shape_of : {O : Type 0} → (O → ℕ) → List (Line O) → Wording O → Shape → Bool
is_shape_of number lines w s =
    bytes_eq (text_at MNEMONICS s.mnemonic) (text_in (Some w.mnemonic)) && same s.alias w.alias
    && same_items (items_of s) (operands_of w)
    && list_any (is_of_line number w s) lines

-- the shape is that of the text of an index, which is one of the scalar instructions, or after these one of
-- the vectors'
unfoldable pub is_shape_at : Option (Wording Operation) → Option (Wording VectorOperation) → Shape → Bool
is_shape_at None None s = false
is_shape_at None (Some w) s = is_shape_of vector_number_of VECTOR_LINES w s
is_shape_at (Some w) other s = is_shape_of number_of SCALAR_LINES w s

-- each shape is that of the text of its index
unfoldable pub are_shapes
    : List (Wording Operation) → List (Wording VectorOperation) → List ℕ → List Shape → Bool
are_shapes ws vs [] [] = true
are_shapes ws vs [] (s ∷ ss) = false
are_shapes ws vs (p ∷ ps) [] = false
are_shapes ws vs (p ∷ ps) (s ∷ ss) =
    is_shape_at (slice_get ws p) (vector_text_at ws vs p) s && are_shapes ws vs ps ss

-- ---- the order of the shapes

-- they stand in the order of mnemonics, and those of a mnemonic in that of the texts
unfoldable pub is_before : Shape → ℕ → Shape → ℕ → Bool
is_before s p t q = nat_lt s.mnemonic t.mnemonic || ((s.mnemonic == t.mnemonic) && nat_lt p q)

unfoldable pub stand_after : Shape → ℕ → List Shape → List ℕ → Bool
stand_after s p [] [] = true
stand_after s p [] (q ∷ qs) = false
stand_after s p (t ∷ ts) [] = false
stand_after s p (t ∷ ts) (q ∷ qs) = is_before s p t q && stand_after t q ts qs

unfoldable pub stand_in_order : List Shape → List ℕ → Bool
stand_in_order [] ps = false
stand_in_order (s ∷ ss) [] = false
stand_in_order (s ∷ ss) (p ∷ ps) = stand_after s p ss ps

-- each of so many texts has a shape
unfoldable pub have_shapes : ℕ → List ℕ → Bool
have_shapes count indices = list_all (λ index. list_any (λ p. p == index) indices) (range_with_len 0 count)
