-- The characters of a source, which is UTF-8, and their columns.
-- Source: this project's own assembly language.
use Rattle.std.specs.Prelude.{ℕ, ◌+◌, Bool, false, not, ◌&&◌, ◌||◌, ◌==◌, List, [], ◌∷◌, take, drop}
use Rattle.std.specs.Prelude.{if◌then◌else◌, length}
use Rattle.std.specs.Char.{is_ascii_digit}
use Rattle.std.specs.Int.{is_in_range}
use Rattle.std.specs.List.{count_by, take_while}

-- 0 to 9
unfoldable pub is_digit : ℕ → Bool
is_digit c = is_ascii_digit c

-- a character of a name: a letter, a digit, `$`, `.` or `_`
unfoldable pub is_name_character : ℕ → Bool
is_name_character c =
    is_in_range 97 122 c || is_in_range 65 90 c || is_digit c || (c == 36) || (c == 46) || (c == 95)

-- a space or a tab
unfoldable pub is_blank : ℕ → Bool
is_blank c = (c == 32) || (c == 9)

-- a byte that continues a character
unfoldable pub is_continuation : ℕ → Bool
is_continuation c = is_in_range 128 191 c

-- the longest prefix of bytes that pass the test, and the rest
abbrev pub front : (ℕ → Bool) → List ℕ → List ℕ
front test bytes = take_while test bytes

abbrev pub back : (ℕ → Bool) → List ℕ → List ℕ
back test bytes = drop (length (front test bytes)) bytes

-- how many characters the bytes are
unfoldable pub characters : List ℕ → ℕ
characters bytes = count_by (λ c. not (is_continuation c)) bytes

-- the column, from 1, of the character that begins at a byte of the line
unfoldable pub column_at : List ℕ → ℕ → ℕ
column_at line offset = characters (take offset line) + 1

-- two `/`
abbrev pub starts_comment : ℕ → List ℕ → Bool
starts_comment c [] = false
starts_comment c (d ∷ ds) = (c == 47) && (d == 47)

abbrev pub is_slash : ℕ → Bool
is_slash c = c == 47

-- the line before its comment, which `//` begins
unfoldable pub before_comment : List ℕ → List ℕ
before_comment [] = []
before_comment (c ∷ cs) = if starts_comment c cs then [] else c ∷ before_comment cs
