-- A file with a value on each line that is not empty: what its lines say, or which of them is the first at
-- fault.
use Rattle.std.specs.Prelude.{ℕ, ◌+◌, nat_lt, Bool, List, [], ◌∷◌, length, filter, Result, Ok, Err}
use Rattle.std.specs.Prelude.{if◌then◌else◌}
use Rattle.line_reader.specs.Lines.{lines_of, line_text, words_in, is_text}
use Rattle.line_reader.specs.Reading as reading
use Rattle.line_reader.specs.Phrases.{Phrase}
use Rattle.line_reader.specs.declared.text_fault.TextKind.{TextKind}
use Rattle.line_reader.specs.declared.text_fault.TextKind.TheVariants.{TooLong, NotText}

-- ---- the lines of a file

-- a line and its number, counted from 1
pub record NumberedLine : Type 0 where
  pub number : ℕ
  pub line : List ℕ

-- the lines behind so many others
abbrev pub numbered : ℕ → List (List ℕ) → List NumberedLine
numbered before [] = []
numbered before (line ∷ lines) = record { number = before + 1; line = line } ∷ numbered (before + 1) lines

-- it is not empty
abbrev pub has_text : List ℕ → Bool
has_text line = nat_lt 0 (length (line_text line))

-- those of the lines behind so many others that are not empty
abbrev pub some_lines : ℕ → List (List ℕ) → List NumberedLine
some_lines before lines = filter (λ it. has_text it.line) (numbered before lines)

-- the lines of a file that are not empty
unfoldable pub file_lines : List ℕ → List NumberedLine
file_lines bytes = some_lines 0 (lines_of bytes)

-- lines say values, one each, in order
abbrev pub Say : {A : Type 0} → (List ℕ → A → Type 0) → List NumberedLine → List A → Type 0
Say IsLine [] [] = Unit {0}
Say IsLine [] (a ∷ said) = ⊥
Say IsLine (it ∷ lines) [] = ⊥
Say IsLine (it ∷ lines) (a ∷ said) = IsLine it.line a × Say IsLine lines said

-- ---- what they say, or the first of them at fault

-- a line that does not say what it should, counted from 1, and what is wrong with it
abbrev pub Fault : Type 0
Fault = reading.Fault TextKind

-- the fault of a line, of which this is wrong; one that is not UTF-8 is no text
abbrev pub line_fault : NumberedLine → TextKind → Fault
line_fault it kind = record { line = it.number; kind = if is_text it.line then kind else NotText }

-- what is said, or the fault of the line that does not say it
abbrev pub or_fault : {A : Type 0} → NumberedLine → Result A TextKind → Result A Fault
or_fault it (Ok a) = Ok a
or_fault it (Err kind) = Err (line_fault it kind)

-- what a line says
unfoldable pub line_said : {A : Type 0} → Phrase A → NumberedLine → Result A Fault
line_said says it = or_fault it (says (words_in (line_text it.line)))

-- a value put before others, the first fault being the answer
abbrev pub onto_others : {A : Type 0} → Result A Fault → Result (List A) Fault → Result (List A) Fault
onto_others (Err fault) others = Err fault
onto_others (Ok a) (Err fault) = Err fault
onto_others (Ok a) (Ok said) = Ok (a ∷ said)

-- what lines say
unfoldable pub all_said : {A : Type 0} → Phrase A → List NumberedLine → Result (List A) Fault
all_said says [] = Ok []
all_said says (it ∷ lines) = onto_others (line_said says it) (all_said says lines)

-- what the lines of a file say; a file that is too long is refused at line 0
abbrev pub file_in : {A : Type 0} → Phrase A → List ℕ → Result (List A) Fault
file_in says bytes =
    if nat_lt 67108864 (length bytes) then Err (record { line = 0; kind = TooLong })
    else all_said says (file_lines bytes)
