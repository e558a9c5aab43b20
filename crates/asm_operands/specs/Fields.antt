-- The number of a field that a token of an operand says.
-- Source: DDI 0487, C1.2, C6.2 and C8.2, with the aliases' pages for MOV (immediate), LSL (immediate) and
-- CSET.
use Rattle.std.specs.Prelude.{ℕ, ◌+◌, ◌-◌, ◌*◌, ◌/◌, ◌%◌, ◌^◌, Bool, true, false, not, ◌&&◌, ◌==◌, nat_lt}
use Rattle.std.specs.Prelude.{nat_le, Option, Some, None, if◌then◌else◌, option_and_then, option_map, bit_xor}
use Rattle.std.specs.List.{find, range_with_len}
use Rattle.bit_ops.specs.Bits.{width_of}
use Rattle.bit_ops.specs.Masks.{are_mask_fields}
use Rattle.insn_forms.specs.Fields.{field_of}
use Rattle.insn_text.specs.declared.item.RegisterFile.{RegisterFile}
use Rattle.insn_text.specs.declared.item.RegisterFile.TheVariants.{X, W}
use Rattle.insn_text.specs.declared.item.VectorFile.{VectorFile}
use Rattle.insn_text.specs.declared.item.Kind.{Kind}
use Rattle.insn_text.specs.declared.item.Kind.TheVariants as kind
use Rattle.insn_text.specs.Texts.{mask_in, is_named_pattern}
use Rattle.insn_text.specs.Wordings.{file_number}
use Rattle.asm_tokens.specs.declared.token.Token.{Token}
use Rattle.asm_tokens.specs.declared.token.Token.TheVariants.{Register, Keyword, Name, Number, Distance}
use Rattle.asm_tokens.specs.declared.token.Token.TheVariants.{Punctuation}
use Rattle.asm_tokens.specs.declared.token.Token.TheVariants.{Sized, Bare}

-- ---- tokens of each sort

unfoldable pub on_punctuation : (ℕ → Option ℕ) → Token → Option ℕ
on_punctuation says (Punctuation c) = says c
on_punctuation says _ = None

unfoldable pub on_keyword : (ℕ → Option ℕ) → Token → Option ℕ
on_keyword says (Keyword index) = says index
on_keyword says _ = None

unfoldable pub on_number : (Bool → ℕ → Option ℕ) → Token → Option ℕ
on_number says (Number negative size) = says negative size
on_number says _ = None

-- a distance, or any name, which stands for a distance that is not known yet
unfoldable pub on_target : (Bool → ℕ → Option ℕ) → Token → Option ℕ
on_target says (Register file number) = Some 0
on_target says (Sized file number suffix) = Some 0
on_target says (Keyword index) = Some 0
on_target says Name = Some 0
on_target says (Distance back size) = says back size
on_target says _ = None

-- a register by its file and number, or a word
unfoldable pub on_register : (RegisterFile → ℕ → Option ℕ) → (ℕ → Option ℕ) → Token → Option ℕ
on_register numbered says (Register file number) = numbered file number
on_register numbered says (Keyword index) = says index
on_register numbered says _ = None

-- a register with a size
unfoldable pub on_sized : (VectorFile → ℕ → ℕ → Option ℕ) → Token → Option ℕ
on_sized says (Sized file number suffix) = says file number suffix
on_sized says _ = None

-- a number without `#`
unfoldable pub on_bare : (ℕ → Option ℕ) → Token → Option ℕ
on_bare says (Bare size) = says size
on_bare says _ = None

-- a word, or a number
unfoldable pub on_pattern : (ℕ → Option ℕ) → (Bool → ℕ → Option ℕ) → Token → Option ℕ
on_pattern word number (Keyword index) = word index
on_pattern word number (Number negative size) = number negative size
on_pattern word number _ = None

-- ---- fields

-- one of `count` keywords from an index on
unfoldable pub keyword_field : ℕ → ℕ → ℕ → Option ℕ
keyword_field first count index =
    if nat_le first index && nat_lt index (first + count) then Some (index - first) else None

unfoldable pub same_file : RegisterFile → RegisterFile → Bool
same_file X X = true
same_file X W = false
same_file W X = false
same_file W W = true

-- a register of the file, below 31
unfoldable pub register_field : RegisterFile → RegisterFile → ℕ → Option ℕ
register_field wanted file number = if same_file wanted file && nat_lt number 31 then Some number else None

-- number 31, whose keyword has an index
unfoldable pub last_field : ℕ → ℕ → Option ℕ
last_field last index = if index == last then Some 31 else None

unfoldable pub same_vector_file : VectorFile → VectorFile → Bool
same_vector_file wanted file = file_number wanted == file_number file

-- a register of the file with one of the suffixes from an index on: the lowest `few` bits of the field are
-- its number, and the others say which suffix
unfoldable pub sized_field : VectorFile → ℕ → ℕ → ℕ → VectorFile → ℕ → ℕ → Option ℕ
sized_field wanted few first bits file number suffix =
    if same_vector_file wanted file && nat_lt number (2 ^ few) && nat_le first suffix
    && nat_lt (suffix - first) (2 ^ (bits - few))
    then Some ((suffix - first) * 2 ^ few + number) else None

-- a register from W12 on, by the last bits of its number
unfoldable pub slice_field : ℕ → RegisterFile → ℕ → Option ℕ
slice_field bits file number =
    if same_file W file && nat_le 12 number && nat_lt (number - 12) (2 ^ bits)
    then Some (number - 12) else None

-- a number of so many bits
unfoldable pub index_field : ℕ → ℕ → Option ℕ
index_field bits size = if nat_lt size (2 ^ bits) then Some size else None

-- the pattern whose word is the one after so many others: 0 to 13, then 29 to 31
unfoldable pub pattern_after : ℕ → ℕ
pattern_after count = if nat_lt count 14 then count else count + 15

unfoldable pub pattern_of_keyword : ℕ → ℕ → Option ℕ
pattern_of_keyword first index = option_map pattern_after (keyword_field first 17 index)

-- a pattern that has no word
unfoldable pub pattern_of_number : Bool → ℕ → Option ℕ
pattern_of_number negative size = if not negative && not (is_named_pattern size) then Some size else None

-- n = from - field, above 0, with a field of so many bits
unfoldable pub descending_field : ℕ → ℕ → Bool → ℕ → Option ℕ
descending_field from bits negative size =
    if not negative && nat_lt 0 size && nat_le size from && nat_lt (from - size) (2 ^ bits)
    then Some (from - size) else None

-- n = field * scale + base, with a field up to the greatest
unfoldable pub unsigned_field : ℕ → ℕ → ℕ → Bool → ℕ → Option ℕ
unsigned_field base scale most negative size =
    if not negative && nat_le base size && ((size - base) % scale == 0) && nat_le ((size - base) / scale) most
    then Some ((size - base) / scale) else None

-- n = field * scale, with a field of so many bits in two's complement
unfoldable pub signed_field : ℕ → ℕ → Bool → ℕ → Option ℕ
signed_field bits scale negative size =
    if not (size % scale == 0) then None
    else if negative then (if nat_le (size / scale) (2 ^ (bits - 1))
    then Some ((2 ^ bits - size / scale) % 2 ^ bits) else None)
    else if nat_lt (size / scale) (2 ^ (bits - 1)) then Some (size / scale)
    else None

-- the mask of some fields is that number
abbrev pub is_that : ℕ → Option ℕ → Bool
is_that number None = false
is_that number (Some mask) = mask == number

-- the mask has the fields N, immr and imms
unfoldable pub is_field_of : Bool → ℕ → ℕ → Bool
is_field_of wide mask field =
    are_mask_fields (field_of field 12 1 == 1) (field_of field 0 6) (field_of field 6 6) wide
    && is_that mask (mask_in wide field)

-- the fields N, immr and imms of a mask
unfoldable pub mask_field : Bool → ℕ → Option ℕ
mask_field wide mask = find (is_field_of wide mask) (range_with_len 0 8192)

-- a number of the width, where a negative one is in two's complement
unfoldable pub immediate_of : Bool → Bool → ℕ → Option ℕ
immediate_of wide negative size =
    if negative then (if nat_le size (2 ^ (width_of wide - 1))
    then Some ((2 ^ width_of wide - size) % 2 ^ width_of wide) else None)
    else if nat_lt size (2 ^ width_of wide) then Some size
    else None

-- the bits of immr and of imms
abbrev pub shift_bits : Bool → ℕ
shift_bits wide = if wide then 6 else 5

-- immr above imms of a shift to the left
unfoldable pub shift_left_field : Bool → Bool → ℕ → Option ℕ
shift_left_field wide negative size =
    if not negative && nat_lt size (width_of wide)
    then Some ((width_of wide - size) % width_of wide * 2 ^ shift_bits wide + (width_of wide - 1 - size))
    else None

-- the number has no bits but those of one halfword
unfoldable pub is_halfword_at : ℕ → ℕ → Bool
is_halfword_at number index = (number % 2 ^ (16 * index) == 0) && nat_lt (number / 2 ^ (16 * index)) 65536

-- the lowest halfword that has all bits of the number, above these bits
unfoldable pub halfword_field : Bool → ℕ → Option ℕ
halfword_field wide number =
    option_map (λ index. index * 65536 + number / 2 ^ (16 * index))
    (find (is_halfword_at number) (range_with_len 0 (width_of wide / 16)))

-- the number, or all its bits inverted
unfoldable pub inverted_if : Bool → Bool → ℕ → ℕ
inverted_if wide inverted number = if inverted then 2 ^ width_of wide - 1 - number else number

-- the number of a field of so many bits that a token says
unfoldable pub field_said : Kind → ℕ → Token → Option ℕ
field_said (kind.Punctuation c) bits token = on_punctuation (λ d. if d == c then Some 0 else None) token
field_said (kind.Keyword first count) bits token = on_keyword (keyword_field first count) token
field_said (kind.Register file last) bits token = on_register (register_field file) (last_field last) token
field_said (kind.Sized file few first) bits token = on_sized (sized_field file few first bits) token
field_said kind.SliceRegister bits token = on_register (slice_field bits) (λ index. None) token
field_said kind.Index bits token = on_bare (index_field bits) token
field_said (kind.Pattern first) bits token = on_pattern (pattern_of_keyword first) pattern_of_number token
field_said (kind.Descending from) bits token = on_number (descending_field from bits) token
field_said (kind.Unsigned base scale most) bits token = on_number (unsigned_field base scale most) token
field_said (kind.Signed scale) bits token = on_number (signed_field bits scale) token
field_said (kind.Distance scale) bits token = on_target (signed_field bits scale) token
field_said (kind.Mask wide) bits token =
    on_number (λ negative size. if negative then None else mask_field wide size) token
field_said (kind.SignedMask wide) bits token =
    on_number (λ negative size. option_and_then (mask_field wide) (immediate_of wide negative size)) token
field_said (kind.ShiftLeft wide) bits token = on_number (shift_left_field wide) token
field_said (kind.Opposite first count) bits token =
    on_keyword (λ index. option_map (λ field. bit_xor field 1) (keyword_field first count index)) token
field_said (kind.Halfword wide inverted) bits token =
    on_number (λ negative size. option_and_then (λ number. halfword_field wide
    (inverted_if wide inverted number))
    (immediate_of wide negative size)) token
