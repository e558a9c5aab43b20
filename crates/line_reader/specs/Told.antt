-- What the code's own types tell.
use Rattle.std.specs.Prelude.{◌≡◌, ◌+◌, List, ℕ, option_map, Result, Ok, Err}
use Rattle.line_reader.specs.Difference.{Difference}
use Rattle.line_reader.specs.Fields.{words_left}
use Rattle.line_reader.specs.File.{NumberedLine}
use Rattle.line_reader.specs.File as file
use Rattle.line_reader.specs.Lines.{lines_of, with_first}
use Rattle.line_reader.specs.Reading.{Left, Fault, next_line}
use Rattle.line_reader.specs.declared.difference.Difference as difference
use Rattle.line_reader.specs.declared.fault.LineFault.{LineFault}
use Rattle.line_reader.specs.declared.fields.Fields.{Fields}
use Rattle.line_reader.specs.declared.lines.Lines.{Lines}
use Rattle.line_reader.specs.declared.text_fault.TextKind.{TextKind}
use Rattle.line_reader.specs.declared.text_fault.TextFault.{TextFault}
use Rattle.line_reader.specs.declared.text_fault.TextFault.TheVariants as fault

-- the words that are left
abbrev pub words_ahead : Fields → List (List ℕ)
words_ahead fields = words_left (option_map (λ text. text.now) fields.left)

-- what is left of a text
abbrev pub left_of : Lines → Left
left_of lines =
    record {
      line = lines.number;
      place = lines.place;
      lines = with_first lines.line.now (lines_of lines.rest.now);
    }

-- what a difference of the code says
abbrev pub difference_said : difference.Difference → Difference
difference_said it = record { line = it.line; first = it.first.now; second = it.second.now }

-- a result is what is read, and this is left
abbrev pub Reads : {K A : Type 0} → Result (A × Left) (Fault K) → Result A (LineFault K) → Left → Type 0
Reads read (Ok a) left = read ≡ Ok (a, left)
Reads read (Err fault) left = read ≡ Err (record { line = fault.line; kind = fault.kind })

-- ---- a file with a value on each line

-- a result is what the next words say, and these words are left
abbrev pub Speaks : {A : Type 0} → Result (A × List (List ℕ)) TextKind → Result A TextKind → List (List ℕ)
    → Type 0
Speaks said (Ok a) words = said ≡ Ok (a, words)
Speaks said (Err kind) words = said ≡ Err kind

-- the next line, with its number
abbrev pub next_of : Left → NumberedLine
next_of left = record { number = left.line + 1; line = next_line left }

-- a fault of the code is that of a line; want of memory says nothing of it
abbrev pub IsFault : {A : Type 0} → Result A file.Fault → TextFault → Type 0
IsFault is (fault.Line line kind) = is ≡ Err (record { line = line; kind = kind })
IsFault is fault.Memory = Unit {0}

-- the code answers what is so, as the view tells it
abbrev pub AnswersAs : {R A : Type 0} → (R → A) → Result A file.Fault → Result R TextFault → Type 0
AnswersAs view is (Ok r) = is ≡ Ok (view r)
AnswersAs view is (Err it) = IsFault is it
