-- Lines of fields: a name, the fields each after a space, and a line feed.
use Rattle.std.specs.Prelude.{ℕ, ◌+◌, ◌++◌, ◌∷◌, ◌==◌, [], List, Bool, true, false, map, decimal}
use Rattle.std.specs.Prelude.{if◌then◌else◌}
use Rattle.std.specs.List.{list_all}
use Rattle.hex.specs.Hex.{encode_lower}
use Rattle.text_lines.specs.Numbers.{hex64, digit}

-- a value that stands as a field
pub data Field : Type 0 where
  -- a number below 2 ^ 32, in decimal
  Number : ℕ → Field
  -- a number below 2 ^ 64, in decimal
  Long : ℕ → Field
  -- a number in 16 hexadecimal digits
  Value : ℕ → Field
  -- a truth value, as 0 or 1
  Truth : Bool → Field
  -- the four flags, as 0 or 1 each
  Flags : List Bool → Field
  -- bytes, in two hexadecimal digits each
  Bytes : List ℕ → Field
  -- the 32 bytes of a digest, too
  Digest : List ℕ → Field

-- its text
abbrev pub field_text : Field → List ℕ
field_text (Number n) = decimal n
field_text (Long n) = decimal n
field_text (Value n) = hex64 n
field_text (Truth b) = digit b ∷ []
field_text (Flags flags) = map digit flags
field_text (Bytes bytes) = encode_lower bytes
field_text (Digest bytes) = encode_lower bytes

-- the fields of a line
abbrev pub Row : Type 0
Row = List Field

-- each after a space (32), and the line feed (10) behind them
abbrev pub fields_text : Row → List ℕ
fields_text [] = 10 ∷ []
fields_text (field ∷ fields) = 32 ∷ (field_text field ++ fields_text fields)

-- the line of a name and fields
abbrev pub row_text : List ℕ → Row → List ℕ
row_text name fields = name ++ fields_text fields

-- lines of one name
unfoldable pub rows_text : List ℕ → List Row → List ℕ
rows_text name [] = []
rows_text name (row ∷ rows) = row_text name row ++ rows_text name rows

-- ---- lines that are numbered, of values that are not zero

-- the row of a value by its number, where it is not zero
abbrev pub value_row : ℕ → ℕ → List Row
value_row k value = if value == 0 then [] else (Number k ∷ Value value ∷ []) ∷ []

-- those of some values, the first of them number k
unfoldable pub value_rows : ℕ → List ℕ → List Row
value_rows k [] = []
value_rows k (value ∷ values) = value_row k value ++ value_rows (k + 1) values

-- all bytes are zero
abbrev pub are_zero : List ℕ → Bool
are_zero bytes = list_all (λ b. b == 0) bytes

-- the row of some bytes, where they are not all zero
abbrev pub bytes_row : List ℕ → List Row
bytes_row bytes = if are_zero bytes then [] else (Bytes bytes ∷ []) ∷ []

-- the row of some bytes by their number, where they are not all zero
abbrev pub numbered_row : ℕ → List ℕ → List Row
numbered_row k bytes = if are_zero bytes then [] else (Number k ∷ Bytes bytes ∷ []) ∷ []

-- those of some, the first of them number k
unfoldable pub numbered_rows : ℕ → List (List ℕ) → List Row
numbered_rows k [] = []
numbered_rows k (bytes ∷ others) = numbered_row k bytes ++ numbered_rows (k + 1) others
