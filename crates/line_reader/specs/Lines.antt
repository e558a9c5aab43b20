-- The lines of a text, and the words of a line.
use Rattle.std.specs.Prelude.{ℕ, ◌-◌, ◌==◌, ◌||◌, Bool, List, [], ◌∷◌, length, take, slice_index, nat_lt, not}
use Rattle.std.specs.Prelude.{if◌then◌else◌}
use Rattle.std.specs.List.{before_first}
use Rattle.std.specs.Str.{bytes_eq}
use Rattle.std.specs.Str.Lossy.{utf8_valid_len}

-- the byte put before the first of some texts
abbrev pub onto_first : ℕ → List (List ℕ) → List (List ℕ)
onto_first b [] = (b ∷ []) ∷ []
onto_first b (text ∷ texts) = (b ∷ text) ∷ texts

-- the lines of a text, each with the line feed that ends it; the last may have none
unfoldable pub lines_of : List ℕ → List (List ℕ)
lines_of [] = []
lines_of (b ∷ bs) = if b == 10 then (b ∷ []) ∷ lines_of bs else onto_first b (lines_of bs)

-- the words of a text, with one space between two of them
unfoldable pub words_in : List ℕ → List (List ℕ)
words_in [] = [] ∷ []
words_in (b ∷ bs) = if b == 32 then [] ∷ words_in bs else onto_first b (words_in bs)

-- a line feed ends it
unfoldable pub is_ended : List ℕ → Bool
is_ended line = slice_index line (length line - 1) == 10

-- a line without the line feed that may end it
unfoldable pub line_text : List ℕ → List ℕ
line_text line = if is_ended line then take (length line - 1) line else line

-- the words of a line; what no line feed ends has none
unfoldable pub words_of : List ℕ → List (List ℕ)
words_of line = if is_ended line then words_in (take (length line - 1) line) else []

-- its first word is that one, whether or not a line feed ends it
unfoldable pub begins_with : List ℕ → List ℕ → Bool
begins_with name line = bytes_eq (before_first (λ b. (b == 32) || (b == 10)) line) name

-- it is UTF-8
unfoldable pub is_text : List ℕ → Bool
is_text line = not (nat_lt (utf8_valid_len line) (length line))

-- a line put before others, where it is not empty
abbrev pub with_first : List ℕ → List (List ℕ) → List (List ℕ)
with_first [] lines = lines
with_first (b ∷ bs) lines = (b ∷ bs) ∷ lines
