-- The lines of a block that say nothing more than their fields. Source: docs/REPORT.md.
use Rattle.std.specs.Prelude.{ℕ, ◌^◌, ◌%◌, ◌==◌, ◌&&◌, ◌||◌, nat_lt, Bool, true, false, List, [], ◌∷◌, length}
use Rattle.std.specs.Prelude.{is_some}
use Rattle.std.specs.List.{list_all}
use Rattle.std.specs.Str.{bytes_eq}
use Rattle.line_reader.specs.Lines.{words_of}
use Rattle.line_reader.specs.Numbers.{decimal_number, number_below, hex_number, is_hex}
use Rattle.text_lines.specs.Forms.{name_of, fields_of}
use Rattle.text_lines.specs.declared.forms.FieldKind.{FieldKind}
use Rattle.text_lines.specs.declared.forms.FieldKind.TheVariants as field
use Rattle.text_lines.specs.declared.forms.LineKind.{LineKind}

-- 0 (48) or 1
unfoldable pub is_bit : ℕ → Bool
is_bit c = (c == 48) || (c == 49)

-- a string of bytes, two digits each, and at least one byte
unfoldable pub is_bytes : List ℕ → Bool
is_bytes word = nat_lt 0 (length word) && (length word % 2 == 0) && is_hex word

-- what may stand as a field: a number below 2 ^ 32 or below 2 ^ 64, a value of 16 hexadecimal digits, a
-- truth value, the four flags, a string of bytes, or a digest of 32 bytes
unfoldable pub is_field : FieldKind → List ℕ → Bool
is_field field.Number word = is_some (number_below (2 ^ 32) word)
is_field field.Long word = is_some (decimal_number word)
is_field field.Value word = is_some (hex_number 16 word)
is_field field.Truth word = (length word == 1) && list_all is_bit word
is_field field.Flags word = (length word == 4) && list_all is_bit word
is_field field.Bytes word = is_bytes word
is_field field.Digest word = (length word == 64) && is_hex word

-- the words are those fields
unfoldable pub are_fields : List FieldKind → List (List ℕ) → Bool
are_fields [] [] = true
are_fields [] (word ∷ words) = false
are_fields (f ∷ fields) [] = false
are_fields (f ∷ fields) (word ∷ words) = is_field f word && are_fields fields words

-- the words are a name and those fields
unfoldable pub has_form : List ℕ → List FieldKind → List (List ℕ) → Bool
has_form name fields [] = false
has_form name fields (word ∷ words) = bytes_eq word name && are_fields fields words

-- the line is of that kind
unfoldable pub is_line : LineKind → List ℕ → Bool
is_line kind line = has_form (name_of kind) (fields_of kind) (words_of line)
