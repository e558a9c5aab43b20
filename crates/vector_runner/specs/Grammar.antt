-- A file of vectors: which lines are in the grammar, as what is said and its text; and the vectors of a file,
-- or its first line that is not in the grammar.
use Rattle.std.specs.Prelude.{ℕ, ◌≡◌, ◌+◌, ◌<◌, ◌≤◌, nat_lt, nat_le, true, List, [], ◌∷◌, ◌++◌, length, map}
use Rattle.std.specs.Prelude.{All, Option, Some, None, Result, Ok, Err, if◌then◌else◌}
use Rattle.std.specs.Str.Parse.{digits_value}
use Rattle.hex.specs.Hex.{decode_of}
use Rattle.line_reader.specs.Lines.{lines_of, line_text, words_in}
use Rattle.line_reader.specs.Numbers.{is_hex}
use Rattle.sm_types.specs.declared.length.VecLen.{VecLen}
use Rattle.text_lines.specs.Numbers.{digit}
use Rattle.vector_runner.specs.Field.{Field, Vector, name_of, svcr_text, modes_of, rank, fits}
use Rattle.vector_runner.specs.Field.{X, Sp, Nzcv, Tpidr, Tpidr2, Svcr, Z, P, Ffr, Za, M}
use Rattle.vector_runner.specs.Words.{vector_in}

-- ---- a word

-- so many hexadecimal digits, with letters in lower case, that write a number
pub record IsNumber (count : ℕ) (digits : List ℕ) (n : ℕ) : Type 0 where
  pub many : length digits ≡ count
  pub hexadecimal : is_hex digits ≡ true
  pub value : digits_value 16 digits ≡ n

-- two such digits for each byte, the high four bits first
pub record IsBytes (digits bytes : List ℕ) : Type 0 where
  pub hexadecimal : is_hex digits ≡ true
  pub value : decode_of digits ≡ Ok bytes

-- what stands after the = of a field
abbrev pub IsValue : Field → List ℕ → Type 0
IsValue (X n value) digits = IsNumber 16 digits value
IsValue (Sp value) digits = IsNumber 16 digits value
IsValue (Nzcv n z c v) digits = digits ≡ digit n ∷ digit z ∷ digit c ∷ digit v ∷ []
IsValue (Tpidr value) digits = IsNumber 16 digits value
IsValue (Tpidr2 value) digits = IsNumber 16 digits value
IsValue (Svcr streaming za_on) digits = digits ≡ svcr_text streaming za_on
IsValue (Z n bytes) digits = IsBytes digits bytes
IsValue (P n bytes) digits = IsBytes digits bytes
IsValue (Ffr bytes) digits = IsBytes digits bytes
IsValue (Za n bytes) digits = IsBytes digits bytes
IsValue (M bytes) digits = IsBytes digits bytes

-- a word says a field: its name, = (61) and its value
pub record IsWordOf (word : List ℕ) (f : Field) : Type 0 where
  pub digits : List ℕ
  pub is : word ≡ name_of f ++ 61 ∷ digits
  pub value : IsValue f digits

-- words say fields, one each, in order
abbrev pub SayFields : List (List ℕ) → List Field → Type 0
SayFields [] [] = Unit {0}
SayFields [] (f ∷ fields) = ⊥
SayFields (word ∷ words) [] = ⊥
SayFields (word ∷ words) (f ∷ fields) = IsWordOf word f × SayFields words fields

-- ---- a line

-- each number is less than the next
abbrev pub AreAscending : List ℕ → Type 0
AreAscending [] = Unit {0}
AreAscending (a ∷ []) = Unit {0}
AreAscending (a ∷ b ∷ rest) = (a < b) × AreAscending (b ∷ rest)

-- a vector of these lengths: its fields stand in their order, and a state in the modes that they say has each
pub record IsVector (vl svl : VecLen) (v : Vector) : Type 0 where
  pub fit : All (λ f. fits vl svl (modes_of v.fields) f ≡ true) v.fields
  pub ordered : AreAscending (map rank v.fields)

-- the line says the vector: the digits of the instruction and the words of its fields, with one space between
-- two of them, whether or not a line feed ends it
pub record IsVectorLine (vl svl : VecLen) (line : List ℕ) (v : Vector) : Type 0 where
  pub first : List ℕ
  pub rest : List (List ℕ)
  pub words : words_in (line_text line) ≡ first ∷ rest
  pub instruction : IsNumber 8 first v.word
  pub said : SayFields rest v.fields
  pub vector : IsVector vl svl v

-- ---- a file

-- the most lines of a file
abbrev pub most_lines : ℕ
most_lines = 2048

-- the most bytes of one
abbrev pub most_bytes : ℕ
most_bytes = 67108864

-- lines say vectors, one each, in order
abbrev pub Say : VecLen → VecLen → List (List ℕ) → List Vector → Type 0
Say vl svl [] [] = Unit {0}
Say vl svl [] (v ∷ vectors) = ⊥
Say vl svl (line ∷ lines) [] = ⊥
Say vl svl (line ∷ lines) (v ∷ vectors) = IsVectorLine vl svl line v × Say vl svl lines vectors

-- a file is that of these vectors
pub record IsFileOf (vl svl : VecLen) (bytes : List ℕ) (vectors : List Vector) : Type 0 where
  pub short : length bytes ≤ most_bytes
  pub few : length vectors ≤ most_lines
  pub said : Say vl svl (lines_of bytes) vectors

-- a file's fault: it has too many bytes; or this is its first line, counted from 1, that is not in the
-- grammar or is past the most lines
pub data Fault : Type 0 where
  TooLong : Fault
  Line : ℕ → Fault

-- a line is at fault: it says no vector, or it is past the most lines
pub data IsAtFault (vl svl : VecLen) (line : List ℕ) (before : ℕ) : Type 0 where
  Silent : ((v : Vector) → IsVectorLine vl svl line v → ⊥) → IsAtFault vl svl line before
  Past : most_lines ≤ before → IsAtFault vl svl line before

-- the first line at fault
pub record IsFirstAtFault (vl svl : VecLen) (lines : List (List ℕ)) (number : ℕ) : Type 0 where
  pub earlier : List (List ℕ)
  pub at : List ℕ
  pub later : List (List ℕ)
  pub vectors : List Vector
  pub whole : lines ≡ earlier ++ at ∷ later
  pub said : Say vl svl earlier vectors
  pub few : length earlier ≤ most_lines
  pub wrong : IsAtFault vl svl at (length earlier)
  pub counted : number ≡ length earlier + 1

-- the fault of a file that is none of vectors
abbrev pub IsFaultOf : VecLen → VecLen → List ℕ → Fault → Type 0
IsFaultOf vl svl bytes TooLong = most_bytes < length bytes
IsFaultOf vl svl bytes (Line number) =
    (length bytes ≤ most_bytes) × IsFirstAtFault vl svl (lines_of bytes) number

-- ---- what is read

-- the vector that a line says
unfoldable pub line_said : VecLen → VecLen → List ℕ → Option Vector
line_said vl svl line = vector_in vl svl (words_in (line_text line))

-- the vector of a line behind so many others, before others
abbrev pub onto_others : ℕ → Option Vector → Result (List Vector) Fault → Result (List Vector) Fault
onto_others before None others = Err (Line (before + 1))
onto_others before (Some v) (Err fault) = Err fault
onto_others before (Some v) (Ok vectors) = Ok (v ∷ vectors)

-- the vectors of lines behind so many others, or the first line at fault
unfoldable pub lines_said : VecLen → VecLen → ℕ → List (List ℕ) → Result (List Vector) Fault
lines_said vl svl before [] = Ok []
lines_said vl svl before (line ∷ lines) =
    if nat_le most_lines before then Err (Line (before + 1))
    else onto_others before (line_said vl svl line) (lines_said vl svl (before + 1) lines)

-- the vectors of a file, or its fault
unfoldable pub vectors_in : VecLen → VecLen → List ℕ → Result (List Vector) Fault
vectors_in vl svl bytes =
    if nat_lt most_bytes (length bytes) then Err TooLong else lines_said vl svl 0 (lines_of bytes)
