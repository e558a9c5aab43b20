-- The fault of a file, told by the places of its lines and of their words. Places count words from 0.
use Rattle.std.specs.Prelude.{◌≡◌, ◌⊎◌, ℕ, zero, suc, ◌<◌, ◌≤◌, ◌&&◌, nat_le, nat_lt, Bool, true, false, List}
use Rattle.std.specs.Prelude.{◌∷◌, ◌++◌, length, slice_get, Option, Some, None, option_and_then}
use Rattle.std.specs.Prelude.{if◌then◌else◌}
use Rattle.line_reader.specs.Lines.{line_text, words_in, is_text}
use Rattle.line_reader.specs.Numbers.{is_decimal, decimal_value}
use Rattle.line_reader.specs.File.{Fault, NumberedLine, Say, file_lines}
use Rattle.line_reader.specs.declared.text_fault.TextKind.{TextKind}
use Rattle.line_reader.specs.declared.text_fault.TextKind.TheVariants.{TooLong, NotText, Unknown}
use Rattle.line_reader.specs.declared.text_fault.TextKind.TheVariants.{BadNumber, Extra, Missing}

-- ---- the words of a line

-- what is to stand after the first word of a line: which words may, and what is wrong where another stands
pub record Slot : Type 0 where
  pub fits : List ℕ → Bool
  pub otherwise : TextKind

-- a decimal number that is at least so much, and below a bound
unfoldable pub is_number : ℕ → ℕ → List ℕ → Bool
is_number least bound word =
    is_decimal word && nat_le least (decimal_value word) && nat_lt (decimal_value word) bound

abbrev pub number_slot : ℕ → ℕ → Slot
number_slot least bound = record { fits = is_number least bound; otherwise = BadNumber }

-- what is wrong with a first word, which has such words after it or is unknown
abbrev pub first_fault : Option (List Slot) → Option TextKind
first_fault None = Some Unknown
first_fault (Some slots) = None

-- what is wrong where such a word is to stand; past the last of them no word is to stand
abbrev pub slot_fault : Option Slot → Option (List ℕ) → Option TextKind
slot_fault (Some slot) None = Some Missing
slot_fault (Some slot) (Some word) = if slot.fits word then None else Some slot.otherwise
slot_fault None None = None
slot_fault None (Some word) = Some Extra

-- what is wrong with a word after the first; after an unknown one the fault is before
abbrev pub rest_fault : Option (List Slot) → ℕ → Option (List ℕ) → Option TextKind
rest_fault None place word = None
rest_fault (Some slots) place word = slot_fault (slice_get slots place) word

-- what is wrong at a place of the words of a line, where the first tells what is to stand after it
unfoldable pub word_fault : (List ℕ → Option (List Slot)) → List (List ℕ) → ℕ → Option TextKind
word_fault after words zero = first_fault (option_and_then after (slice_get words 0))
word_fault after words (suc place) =
    rest_fault (option_and_then after (slice_get words 0)) place (slice_get words (suc place))

-- this is wrong at a place, and nothing at a place before it
pub record IsFirst (wrong : ℕ → Option TextKind) (kind : TextKind) : Type 0 where
  pub place : ℕ
  pub here : wrong place ≡ Some kind
  pub before : (other : ℕ) → other < place → wrong other ≡ None

-- ---- the lines

-- this is wrong with a line: it is not UTF-8, or else of its words the first at fault is so
pub record IsWrongWith (after : List ℕ → Option (List Slot)) (line : List ℕ) (kind : TextKind) : Type 0 where
  pub text : is_text line ≡ true → IsFirst (word_fault after (words_in (line_text line))) kind
  pub no_text : is_text line ≡ false → kind ≡ NotText

-- the fault is of a line that says nothing, and the lines before it say something each
pub record IsLineFault {A : Type 0} (IsLine : List ℕ → A → Type 0) (after : List ℕ → Option (List Slot))
    (lines : List NumberedLine) (fault : Fault) : Type 0 where
  pub earlier : List NumberedLine
  pub at : NumberedLine
  pub later : List NumberedLine
  pub values : List A
  pub whole : lines ≡ earlier ++ at ∷ later
  pub said : Say IsLine earlier values
  pub silent : (a : A) → IsLine at.line a → ⊥
  pub number : fault.line ≡ at.number
  pub wrong : IsWrongWith after at.line fault.kind

-- ---- the file

-- the fault of a file with too many bytes, which is at no line
pub record IsTooLong (bytes : List ℕ) (fault : Fault) : Type 0 where
  pub exceeds : 67108864 < length bytes
  pub number : fault.line ≡ 0
  pub wrong : fault.kind ≡ TooLong

-- the fault of a file that has not too many, but a line that says nothing
pub record IsOfLine {A : Type 0} (IsLine : List ℕ → A → Type 0) (after : List ℕ → Option (List Slot))
    (bytes : List ℕ) (fault : Fault) : Type 0 where
  pub fits : length bytes ≤ 67108864
  pub first : IsLineFault IsLine after (file_lines bytes) fault

-- the fault of a file of which a line says nothing, or that is too long
abbrev pub IsFileFault : {A : Type 0} → (List ℕ → A → Type 0) → (List ℕ → Option (List Slot)) → List ℕ
    → Fault → Type 0
IsFileFault IsLine after bytes fault = IsTooLong bytes fault ⊎ IsOfLine IsLine after bytes fault
