-- Why a source is refused: the first fault of its lines in order, then the first name or distance at fault,
-- then that it has no start.
-- Source: this project's own assembly language.
use Rattle.std.specs.Prelude.{ℕ, ◌+◌, ◌%◌, Bool, true, false, not, ◌&&◌, ◌||◌, ◌==◌, nat_lt, List, [], ◌∷◌}
use Rattle.std.specs.Prelude.{◌++◌, length, Option, Some, None, Result, Ok, Err, is_some, if◌then◌else◌}
use Rattle.std.specs.Prelude.{codes, ℤ, option_map}
use Rattle.std.specs.List.{list_any}
use Rattle.std.specs.Option.{option_or as or_else}
use Rattle.std.specs.Str.Lossy.{utf8_valid_len}
use Rattle.sm_types.specs.declared.object.Section.{Section}
use Rattle.sm_types.specs.declared.object.Section.TheVariants.{Text, Data}
use Rattle.asm_parser.specs.declared.line.LineFault.{LineFault}
use Rattle.asm_parser.specs.declared.line.LineFault.TheVariants.{BadOperand}
use Rattle.asm_parser.specs.Statements.{QuadValue, IsNumber, IsAddressOf, TargetSaid, Says, Nothing, IntoText}
use Rattle.asm_parser.specs.Statements.{IntoData, Quads, Words, Bytes, Zeros, Aligns, Globals, Codes}
use Rattle.asm_parser.specs.Statements.{SourceLine}
use Rattle.asm_parser.specs.Lines.{line_of}
use Rattle.asm_core.specs.declared.fault.AsmFault.{AsmFault}
use Rattle.asm_core.specs.declared.fault.AsmFault.TheVariants.{TooLong, NotText, Line, Doubled, Undefined}
use Rattle.asm_core.specs.declared.fault.AsmFault.TheVariants.{TooFar, TooLarge, NoStart}
use Rattle.asm_core.specs.Source.{lines_of, said_lines}
use Rattle.asm_core.specs.declared.location_counter.LocationCounter.{LocationCounter}
use Rattle.asm_core.specs.declared.labels.LabelPosition.{LabelPosition}
use Rattle.asm_core.specs.Layout.{first_counter, here, counter_after, counter_past, Label, labels_at}
use Rattle.asm_core.specs.Code.{CodeWord, code_words}
use Rattle.asm_core.specs.Layout.{Names, names_in, label_named, label_address, address_in, address_here}
use Rattle.insn_text.specs.declared.item.Item.{Item}
use Rattle.asm_core.specs.Targets.{distance, word_to}

abbrev pub fault_if : Bool → AsmFault → Option AsmFault
fault_if true fault = Some fault
fault_if false fault = None

-- ---- each line by itself, after those before it

-- the column of code that stands at no multiple of 4
unfoldable pub misaligned : Says → ℕ → Option ℕ
misaligned (Codes code column) offset = if offset % 4 == 0 then None else Some column
misaligned Nothing offset = None
misaligned IntoText offset = None
misaligned IntoData offset = None
misaligned (Quads values) offset = None
misaligned (Words numbers) offset = None
misaligned (Bytes numbers) offset = None
misaligned (Zeros count) offset = None
misaligned (Aligns power) offset = None
misaligned (Globals name) offset = None

-- a label has the name of one before it
unfoldable pub is_doubled : List Label → List Label → Bool
is_doubled labels [] = false
is_doubled labels (l ∷ ls) = is_some (label_named labels l.name) || is_doubled (labels ++ l ∷ []) ls

-- the part that a line goes to has more than 4 MiB with it
unfoldable pub is_too_large : LocationCounter → Says → Bool
is_too_large p says =
    nat_lt 4194304 (counter_after p says).text_size || nat_lt 4194304 (counter_after p says).data_size

-- the fault of line number n, from 1, at a location counter and after some labels
unfoldable pub line_fault : ℕ → LocationCounter → List Label → Result SourceLine LineFault → Option AsmFault
line_fault n p labels (Err fault) = Some (Line n fault)
line_fault n p labels (Ok line) =
    or_else (option_map (λ column. Line n (BadOperand column)) (misaligned line.says (here p)))
    (or_else (fault_if (is_doubled labels (labels_at p line)) (Doubled n))
    (fault_if (is_too_large p line.says) (TooLarge n)))

-- the labels after a line
abbrev pub labels_after : LocationCounter → List Label → SourceLine → List Label
labels_after p labels line = labels ++ labels_at p line

-- what follows a line that is in the grammar, at the location counter and with the labels after it
abbrev pub after_line :
    (LocationCounter → List Label → Option AsmFault) → LocationCounter → List Label
    → Result SourceLine LineFault → Option AsmFault
after_line rest p labels (Err fault) = None
after_line rest p labels (Ok line) = rest (counter_after p line.says) (labels_after p labels line)

-- the fault of the first of some lines that has one; the first is number n, at a location counter and after
-- some labels
unfoldable pub lines_fault : ℕ → LocationCounter → List Label → List (List ℕ) → Option AsmFault
lines_fault n p labels [] = None
lines_fault n p labels (text ∷ texts) =
    or_else (line_fault n p labels (line_of text)) (after_line
    (λ next known. lines_fault (n + 1) next known texts) p labels (line_of text))

-- ---- names and distances, with all labels known

-- a value is the address of a label that is not there
unfoldable pub is_undefined : Names → QuadValue → Bool
is_undefined names (IsNumber n) = false
is_undefined names (IsAddressOf name) = not (is_some (names name))

abbrev pub too_far : ℕ → ℤ → Option ℕ → Option AsmFault
too_far n bytes None = Some (TooFar n bytes)
too_far n bytes (Some word) = None

-- the fault of an instruction at an address whose operand is to have the distance to another
abbrev pub distance_fault : ℕ → Item → ℕ → ℕ → ℕ → Option AsmFault
distance_fault n i word from target = too_far n (distance i from target) (word_to i word from target)

-- the fault of an instruction at an address with the label of its target
abbrev pub label_fault : ℕ → ℕ → Item → ℕ → ℕ → Option LabelPosition → Option AsmFault
label_fault n text_length i word from None = Some (Undefined n)
label_fault n text_length i word from (Some label) =
    distance_fault n i word from (label_address text_length label)

abbrev pub instruction_fault : ℕ → ℕ → Names → ℕ → ℕ → Option TargetSaid → Option AsmFault
instruction_fault n text_length names from word None = None
instruction_fault n text_length names from word (Some target) =
    label_fault n text_length target.operand word from (names target.name)

-- the fault of the first of some words that has one, of which the first is at an address
unfoldable pub words_fault : ℕ → ℕ → Names → ℕ → List CodeWord → Option AsmFault
words_fault n text_length names from [] = None
words_fault n text_length names from (w ∷ ws) =
    or_else (instruction_fault n text_length names from w.word w.target) (words_fault n text_length names
    (from + 4) ws)

-- the fault of the names and distances of line number n at a location counter
unfoldable pub target_fault : ℕ → ℕ → Names → LocationCounter → Says → Option AsmFault
target_fault n text_length names p (Codes code column) =
    words_fault n text_length names (address_here text_length p) (code_words code)
target_fault n text_length names p (Quads values) =
    fault_if (list_any (is_undefined names) values) (Undefined n)
target_fault n text_length names p Nothing = None
target_fault n text_length names p IntoText = None
target_fault n text_length names p IntoData = None
target_fault n text_length names p (Words numbers) = None
target_fault n text_length names p (Bytes numbers) = None
target_fault n text_length names p (Zeros count) = None
target_fault n text_length names p (Aligns power) = None
target_fault n text_length names p (Globals name) = None

-- the fault of the first of some lines that has one; the first is number n, at a location counter
unfoldable pub targets_fault : ℕ → ℕ → Names → LocationCounter → List SourceLine → Option AsmFault
targets_fault n text_length names p [] = None
targets_fault n text_length names p (line ∷ lines) =
    or_else (target_fault n text_length names p line.says) (targets_fault (n + 1) text_length names
    (counter_after p line.says) lines)

-- ---- the start

abbrev pub start_in : ℕ → Section → ℕ → Option ℕ
start_in text_length Text offset =
    if (offset % 4 == 0) && nat_lt offset text_length then Some (address_in text_length Text offset) else None
start_in text_length Data offset = None

abbrev pub start_at : ℕ → Option LabelPosition → Option ℕ
start_at text_length None = None
start_at text_length (Some label) = start_in text_length label.part label.offset

-- the address of the label `_start`, where it is at a multiple of 4 at a byte of the text
unfoldable pub start_of : ℕ → Names → Option ℕ
start_of text_length names = start_at text_length (names (codes "_start"))

-- ---- a source

-- how many bytes of text the lines put
abbrev pub text_length_of : List SourceLine → ℕ
text_length_of lines = (counter_past first_counter lines).text_size

-- the fault of lines that are all in the grammar
unfoldable pub said_fault : List SourceLine → Option AsmFault
said_fault lines =
    or_else (targets_fault 1 (text_length_of lines) (names_in lines) first_counter lines)
    (fault_if (not (is_some (start_of (text_length_of lines) (names_in lines)))) NoStart)

unfoldable pub text_fault : List (List ℕ) → Option AsmFault
text_fault texts = or_else (lines_fault 1 first_counter [] texts) (said_fault (said_lines texts))

-- why a source is refused: it is too long, it is no UTF-8, or the first fault of its lines
unfoldable pub asm_fault : List ℕ → Option AsmFault
asm_fault source =
    if nat_lt 67108864 (length source) then Some TooLong
    else if nat_lt (utf8_valid_len source) (length source) then Some (NotText (utf8_valid_len source))
    else text_fault (lines_of source)
