-- The tokens of a line: names, numbers and punctuation, with blanks between them.
-- Source: this project's own assembly language.
use Rattle.std.specs.Prelude.{ℕ, zero, suc, ◌+◌, Bool, true, false, not, ◌&&◌, ◌||◌, ◌==◌, nat_lt, List, []}
use Rattle.std.specs.Prelude.{◌∷◌, length, drop, slice_index, Option, Some, None, if◌then◌else◌}
use Rattle.std.specs.List.{position}
use Rattle.std.specs.Str.{bytes_eq}
use Rattle.insn_text.specs.declared.item.RegisterFile.{RegisterFile}
use Rattle.insn_text.specs.declared.item.RegisterFile.TheVariants.{X, W}
use Rattle.insn_text.specs.declared.item.VectorFile.{VectorFile}
use Rattle.insn_text.specs.declared.item.VectorFile.TheVariants as vector
use Rattle.insn_text.specs.declared.item.Text.{Text}
use Rattle.insn_text.specs.declared.keywords.TheConstants.{KEYWORDS, SUFFIXES}
use Rattle.insn_text.specs.Texts.{text_in}
use Rattle.line_reader.specs.Numbers.{decimal_number}
use Rattle.asm_tokens.specs.declared.token.Token.{Token}
use Rattle.asm_tokens.specs.declared.token.Token.TheVariants.{Register, Keyword, Name, Number, Distance, Bare}
use Rattle.asm_tokens.specs.declared.token.Token.TheVariants.{Malformed, Punctuation, Other, Sized}
use Rattle.asm_tokens.specs.declared.token.Lexeme.{Lexeme}
use Rattle.asm_tokens.specs.Characters.{is_digit, is_name_character, is_blank, is_continuation, front, back}
use Rattle.asm_tokens.specs.Numbers.{number_in}

-- the token is a name
unfoldable pub is_name : Token → Bool
is_name (Register file number) = true
is_name (Sized file number suffix) = true
is_name (Keyword index) = true
is_name Name = true
is_name _ = false

-- the token is a number of any form
unfoldable pub is_number_token : Token → Bool
is_number_token (Number negative size) = true
is_number_token (Distance back size) = true
is_number_token (Bare size) = true
is_number_token Malformed = true
is_number_token _ = false

-- the index of a text in a table
unfoldable pub index_in : List Text → List ℕ → Option ℕ
index_in texts text = position (λ t. bytes_eq (text_in (Some t)) text) texts

-- a name is a keyword of operands, or not
unfoldable pub name_token : Option ℕ → Token
name_token None = Name
name_token (Some index) = Keyword index

-- the file of a letter: `x` or `w`
unfoldable pub file_of : ℕ → Option RegisterFile
file_of c = if c == 120 then Some X else if c == 119 then Some W else None

-- a register of a file by its number
unfoldable pub register_of : Option RegisterFile → Option ℕ → Option Token
register_of None number = None
register_of (Some file) None = None
register_of (Some file) (Some number) = if nat_lt number 31 then Some (Register file number) else None

-- the register that a name is: a letter and decimal digits
unfoldable pub register_in : List ℕ → Option Token
register_in cs = register_of (file_of (slice_index cs 0)) (decimal_number (drop 1 cs))

-- the file of a letter, of vectors, predicates or the low parts of vectors: z, p, b, h, s, d
unfoldable pub vector_file_of : ℕ → Option VectorFile
vector_file_of c =
    if c == 122 then Some vector.Z else if c == 112 then Some vector.P else if c == 98 then Some vector.B
    else if c == 104 then Some vector.H else if c == 115 then Some vector.S
    else if c == 100 then Some vector.D else None

-- how many registers a file has
unfoldable pub file_size : VectorFile → ℕ
file_size vector.P = 16
file_size vector.Za = 16
file_size other = 32

-- the suffixes of a file, by their indices: a vector has any size of elements or none, a predicate none or
-- one up to `.d`, a part of a vector none, a tile one, and a slice of a tile one behind its direction
unfoldable pub has_suffix : VectorFile → ℕ → Bool
has_suffix vector.Z suffix = nat_lt suffix 6
has_suffix vector.P suffix = nat_lt suffix 5
has_suffix vector.Za suffix = not (suffix == 0)
has_suffix other suffix = suffix == 0

-- a register of a file by its number and its suffix
unfoldable pub sized_of : VectorFile → Option ℕ → Option ℕ → Option Token
sized_of file None suffix = None
sized_of file (Some number) None = None
sized_of file (Some number) (Some suffix) =
    if nat_lt number (file_size file) && has_suffix file suffix then Some (Sized file number suffix) else None

-- the register that a name is: what follows the letters of its file is decimal digits and a suffix
unfoldable pub sized_after : Option VectorFile → List ℕ → Option Token
sized_after None cs = None
sized_after (Some file) cs =
    sized_of file (decimal_number (front is_digit cs)) (index_in SUFFIXES (back is_digit cs))

-- the letters `za` come first
unfoldable pub begins_za : List ℕ → Bool
begins_za cs = (slice_index cs 0 == 122) && (slice_index cs 1 == 97)

-- the register of vectors, predicates or ZA that a name is
unfoldable pub sized_in : List ℕ → Option Token
sized_in cs =
    if begins_za cs then sized_after (Some vector.Za) (drop 2 cs)
    else sized_after (vector_file_of (slice_index cs 0)) (drop 1 cs)

abbrev pub token_or : Token → Option Token → Token
token_or fallback None = fallback
token_or _ (Some token) = token

-- the token of a name: a register, a keyword, or another
unfoldable pub token_of_name : List ℕ → Token
token_of_name cs = token_or (token_or (name_token (index_in KEYWORDS cs)) (sized_in cs)) (register_in cs)

unfoldable pub number_token : Bool → Option ℕ → Token
number_token negative None = Malformed
number_token negative (Some size) = Number negative size

unfoldable pub distance_token : Bool → Option ℕ → Token
distance_token back None = Malformed
distance_token back (Some size) = Distance back size

unfoldable pub bare_token : Option ℕ → Token
bare_token None = Malformed
bare_token (Some size) = Bare size

-- a token, and how many bytes it has
pub record Read : Type 0 where
  pub token : Token
  pub size : ℕ

-- the run of characters of names at the front
abbrev pub run : List ℕ → List ℕ
run cs = front is_name_character cs

-- `#`, a sign and a number: the text after the `#`
unfoldable pub read_number : List ℕ → Read
read_number cs =
    if slice_index cs 0 == 45
    then record {
      token = number_token true (number_in (run (drop 1 cs)));
      size = 2
          + length (run (drop 1 cs));
    }
    else record { token = number_token false (number_in (run cs)); size = 1 + length (run cs) }

-- `.`, `+` or `-`, and a decimal number: the text after the `.`
unfoldable pub read_distance : List ℕ → Read
read_distance cs = record {
  token = distance_token (slice_index cs 0 == 45) (decimal_number (run (drop 1 cs)));
  size = 2 + length (run (drop 1 cs));
}

-- a name, or a number without `#`
unfoldable pub read_run : List ℕ → Read
read_run cs = record {
  token = if is_digit (slice_index cs 0) then bare_token (number_in (run cs)) else token_of_name (run cs);
  size = length (run cs);
}

-- a character by itself, with the bytes that continue it
unfoldable pub read_character : ℕ → List ℕ → Read
read_character c cs =
    if nat_lt c 128 then record { token = Punctuation c; size = 1 }
    else record { token = Other; size = 1 + length (front is_continuation cs) }

-- `+` or `-` stands first
unfoldable pub has_sign : List ℕ → Bool
has_sign cs = (slice_index cs 0 == 43) || (slice_index cs 0 == 45)

-- the token that begins with the character, before those bytes
unfoldable pub read_token : ℕ → List ℕ → Read
read_token c cs =
    if c == 35 then read_number cs
    else if (c == 46) && has_sign cs then read_distance cs
    else if is_name_character c then read_run (c ∷ cs)
    else read_character c cs

-- a name stands first
unfoldable pub begins_name : List ℕ → Bool
begins_name [] = false
begins_name (c ∷ cs) = is_name_character c && not (is_digit c) && not ((c == 46) && has_sign cs)

abbrev pub lexeme_at : ℕ → Read → Lexeme
lexeme_at offset r = record { token = r.token; start = offset; end = offset + r.size }

-- the tokens of a text that stands at an offset of the line; each takes a byte at least, and no more than
-- `most` are taken
unfoldable pub lexemes_from : ℕ → ℕ → List ℕ → List Lexeme
lexemes_from zero offset text = []
lexemes_from (suc most) offset [] = []
lexemes_from (suc most) offset (c ∷ cs) =
    if is_blank c then lexemes_from most (offset + 1) cs
    else lexeme_at offset (read_token c cs)
    ∷ lexemes_from most (offset + (read_token c cs).size) (drop (read_token c cs).size (c ∷ cs))

-- the tokens of a text that stands at an offset of the line
abbrev pub lexemes_of : ℕ → List ℕ → List Lexeme
lexemes_of offset text = lexemes_from (length text) offset text
