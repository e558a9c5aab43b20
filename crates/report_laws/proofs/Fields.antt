-- Printed fields are read, and how long they are.
use Rattle.std.proofs.Common.{◌≡◌, ℕ, ◌+◌, ◌*◌, ◌%◌, ◌^◌, ◌<◌, ◌≤◌, Bool, true, false, ◌==◌, ◌&&◌, List, [], ◌∷◌, ◌++◌, length, map}
use Rattle.std.proofs.Common.{refl, ap, ◌∙◌, arith, lt-ltb}
use Rattle.std.specs.Prelude.{is_some}
use Rattle.std.specs.List.{list_all}
use Rattle.std.proofs.lemmas.Bool.Decides.{nat_tests}
use Rattle.std.proofs.lemmas.List.{length-map}
use Rattle.std.proofs.lemmas.Fmt.{length-decimal-le}
use Rattle.std.specs.Int.{w64, to_be_bytes}
use Rattle.hex.specs.Hex.{encode_lower, lower_digits}
use Rattle.hex.proofs.HexLemmas.{length-encode_with}
use Rattle.line_reader.proofs.Digits.{decimal_read}
use Rattle.line_reader.specs.Numbers.{is_hex}
use Rattle.text_lines.specs.Numbers.{hex64, digit}
use Rattle.text_lines.specs.Rows.{Field, Number, Long, Value, Truth, Flags, Bytes, Digest, Row, field_text, row_text}
use Rattle.text_lines.specs.declared.forms.FieldKind.{FieldKind}
use Rattle.text_lines.specs.declared.forms.FieldKind.TheVariants as field
use Rattle.report_reader.specs.Forms.{are_fields, is_field, is_bytes, is_bit}
use Rattle.report_laws.specs.Fits.{are_bytes}
use Rattle.report_laws.proofs.Spaced.{is_plain, line_text}
use Rattle.report_laws.proofs.Numerals.{decimal_plain, below_read, hex64_plain, hex64_read, hex_digits, bytes_plain}

-- as which kind of field it is read
abbrev pub kind_of : Field → FieldKind
kind_of (Number n) = field.Number
kind_of (Long n) = field.Long
kind_of (Value n) = field.Value
kind_of (Truth b) = field.Truth
kind_of (Flags flags) = field.Flags
kind_of (Bytes bytes) = field.Bytes
kind_of (Digest bytes) = field.Digest

-- its value fits
abbrev pub FieldFits : Field → Type 0
FieldFits (Number n) = n < 2 ^ 32
FieldFits (Long n) = n < 2 ^ 64
FieldFits (Value n) = n < 2 ^ 64
FieldFits (Truth b) = Unit {0}
FieldFits (Flags flags) = length flags ≡ 4
FieldFits (Bytes bytes) = (0 < length bytes) × (are_bytes bytes ≡ true)
FieldFits (Digest bytes) = (length bytes ≡ 32) × (are_bytes bytes ≡ true)

digits_plain : (flags : List Bool) → is_plain (map digit flags) ≡ true
unfolding digit
digits_plain [] = refl
digits_plain (true ∷ flags) = digits_plain flags
digits_plain (false ∷ flags) = digits_plain flags

digits_bits : (flags : List Bool) → list_all is_bit (map digit flags) ≡ true
unfolding digit is_bit
digits_bits [] = refl
digits_bits (true ∷ flags) = digits_bits flags
digits_bits (false ∷ flags) = digits_bits flags

field_plain : (f : Field) → FieldFits f → is_plain (field_text f) ≡ true
field_plain (Number n) fits = decimal_plain n (omega arith)
field_plain (Long n) fits = decimal_plain n fits
field_plain (Value n) fits = hex64_plain n
field_plain (Truth b) fits = digits_plain (b ∷ [])
field_plain (Flags flags) fits = digits_plain flags
field_plain (Bytes bytes) fits = bytes_plain bytes fits.1
field_plain (Digest bytes) fits = bytes_plain bytes fits.1

is_even : (n m : ℕ) → n ≡ 2 * m → (n % 2 == 0) ≡ true
is_even n m e = let even : n % 2 ≡ 0 = omega arith in grind (arith, nat_tests)

field_read : (f : Field) → FieldFits f → is_field (kind_of f) (field_text f) ≡ true
unfolding is_field is_bytes is_hex
field_read (Number n) fits = ap is_some (below_read (2 ^ 32) n (omega arith) fits)
field_read (Long n) fits = ap is_some (decimal_read n fits)
field_read (Value n) fits = ap is_some (hex64_read n fits)
field_read (Truth b) fits = digits_bits (b ∷ [])
field_read (Flags flags) fits =
    ap (λ n. (n == 4) && list_all is_bit (map digit flags)) (length-map flags digit ∙ fits) ∙ digits_bits flags
field_read (Bytes bytes) fits =
    let size = length-encode_with lower_digits bytes in
    let long : 0 < length (encode_lower bytes) = omega (arith, size, fits.0) in
    rw (
      lt-ltb 0 (length (encode_lower bytes)) long,
      is_even (length (encode_lower bytes)) (length bytes) size,
      hex_digits bytes fits.1,
    ) refl
field_read (Digest bytes) fits =
    let long : length (encode_lower bytes) ≡ 64 = length-encode_with lower_digits bytes ∙ ap (λ n. 2 * n) fits.0 in
    rw (long, hex_digits bytes fits.1) refl

-- ---- rows

abbrev pub FieldsFit : Row → Type 0
FieldsFit [] = Unit {0}
FieldsFit (f ∷ row) = FieldFits f × FieldsFit row

-- the words of a row
abbrev pub words_of_row : Row → List (List ℕ)
words_of_row row = map field_text row

pub row_plain : (row : Row) → FieldsFit row → list_all is_plain (words_of_row row) ≡ true
row_plain [] fit = refl
row_plain (f ∷ row) fit = rw (field_plain f fit.0, row_plain row fit.1) refl

pub row_read : (row : Row) → FieldsFit row → are_fields (map kind_of row) (words_of_row row) ≡ true
unfolding are_fields
row_read [] fit = refl
row_read (f ∷ row) fit = rw (field_read f fit.0, row_read row fit.1) refl

pub row_words : (name : List ℕ) (row : Row) → row_text name row ≡ line_text (name ∷ words_of_row row)
row_words name [] = refl
row_words name (f ∷ row) = ap (λ text. name ++ 32 ∷ text) (row_words (field_text f) row)

-- ---- lengths

-- the lengths of some texts together
hex_size : (n : ℕ) → length (hex64 n) ≡ 16
unfolding hex64
hex_size n = length-encode_with lower_digits (to_be_bytes w64 n)

-- a field of bytes has 256 at most
abbrev pub IsShort : Field → Type 0
IsShort (Number n) = Unit {0}
IsShort (Long n) = Unit {0}
IsShort (Value n) = Unit {0}
IsShort (Truth b) = Unit {0}
IsShort (Flags flags) = Unit {0}
IsShort (Bytes bytes) = length bytes ≤ 256
IsShort (Digest bytes) = Unit {0}

pub field_length : (f : Field) → FieldFits f → IsShort f → length (field_text f) ≤ 512
field_length (Number n) fits short = omega (arith, length-decimal-le 20 n (omega arith) (omega arith) (omega arith))
field_length (Long n) fits short = omega (arith, length-decimal-le 20 n (omega arith) (omega arith) fits)
field_length (Value n) fits short = omega (arith, hex_size n)
field_length (Truth b) fits short = omega arith
field_length (Flags flags) fits short = omega (arith, length-map flags digit, fits)
field_length (Bytes bytes) fits short = omega (arith, length-encode_with lower_digits bytes, short)
field_length (Digest bytes) fits short = omega (arith, length-encode_with lower_digits bytes, fits.0)
