-- Where the lines of a source put their bytes, and what their labels stand for.
-- Source: the GNU assembler for sections, labels and alignment; the addresses are this project's own.
use Rattle.std.specs.Prelude.{ℕ, ◌+◌, ◌-◌, ◌*◌, ◌%◌, ◌^◌, List, [], ◌∷◌, ◌++◌, length, take, map, Option}
use Rattle.std.specs.Prelude.{Some, None, option_map}
use Rattle.std.specs.List.{find}
use Rattle.std.specs.Str.{bytes_eq}
use Rattle.sm_types.specs.declared.object.Section.{Section}
use Rattle.sm_types.specs.declared.object.Section.TheVariants.{Text, Data}
use Rattle.sm_types.specs.Objects.{text_address, data_address}
use Rattle.asm_core.specs.declared.location_counter.LocationCounter.{LocationCounter}
use Rattle.asm_core.specs.declared.labels.LabelPosition.{LabelPosition}
use Rattle.asm_parser.specs.Statements.{Says, Nothing, IntoText, IntoData, Quads, Words, Bytes, Zeros, Aligns}
use Rattle.asm_parser.specs.Statements.{Globals, Codes, SourceLine}
use Rattle.asm_core.specs.Code.{NamedByte, code_words, names_said}

-- a source begins in the text
abbrev pub first_counter : LocationCounter
first_counter = record { part = Text; text_size = 0; data_size = 0 }

-- how many bytes the part has that is written to
abbrev pub here_in : Section → LocationCounter → ℕ
here_in Text p = p.text_size
here_in Data p = p.data_size

abbrev pub here : LocationCounter → ℕ
here p = here_in p.part p

-- how many zeros there are up to the next multiple
unfoldable pub padding : ℕ → ℕ → ℕ
padding unit offset = (unit - offset % unit) % unit

-- how many bytes a line puts after so many
unfoldable pub size_of : Says → ℕ → ℕ
size_of Nothing offset = 0
size_of IntoText offset = 0
size_of IntoData offset = 0
size_of (Quads values) offset = 8 * length values
size_of (Words numbers) offset = 4 * length numbers
size_of (Bytes numbers) offset = length numbers
size_of (Zeros count) offset = count
size_of (Aligns power) offset = padding (2 ^ power) offset
size_of (Globals name) offset = 0
size_of (Codes code column) offset = 4 * length (code_words code)

-- so many bytes more in the part
abbrev pub grown_in : Section → LocationCounter → ℕ → LocationCounter
grown_in Text p size = record p { text_size = p.text_size + size }
grown_in Data p size = record p { data_size = p.data_size + size }

-- the part that a line leaves to be written to
abbrev pub part_after : Says → Section → Section
part_after IntoText part = Text
part_after IntoData part = Data
part_after Nothing part = part
part_after (Quads values) part = part
part_after (Words numbers) part = part
part_after (Bytes numbers) part = part
part_after (Zeros count) part = part
part_after (Aligns power) part = part
part_after (Globals name) part = part
part_after (Codes code column) part = part

-- the location counter after a line
unfoldable pub counter_after : LocationCounter → Says → LocationCounter
counter_after p says = record (grown_in p.part p (size_of says (here p))) { part = part_after says p.part }

-- the location counter after some lines
unfoldable pub counter_past : LocationCounter → List SourceLine → LocationCounter
counter_past p [] = p
counter_past p (line ∷ lines) = counter_past (counter_after p line.says) lines

-- the location counter of line number k, from 0
abbrev pub counter_of : List SourceLine → ℕ → LocationCounter
counter_of lines k = counter_past first_counter (take k lines)

-- ---- labels

-- a name for an offset in a part
pub record Label : Type 0 where
  pub name : List ℕ
  pub part : Section
  pub offset : ℕ

-- the label of a name at a position
abbrev pub label_of : List ℕ → LabelPosition → Label
label_of name position = record { name = name; part = position.part; offset = position.offset }

-- the label of a name so many bytes after a location counter
abbrev pub label_past : LocationCounter → NamedByte → Label
label_past p named = record { name = named.name; part = p.part; offset = here p + named.offset }

-- the label that stands on a line at a location counter
abbrev pub label_at : LocationCounter → List ℕ → Label
label_at p name = record { name = name; part = p.part; offset = here p }

-- a list of one, or of none
abbrev pub if_some : {A : Type 0} → Option A → List A
if_some None = []
if_some (Some a) = a ∷ []

-- the labels of a line at a location counter: that which stands on it, and those that its directive brings
abbrev pub labels_at : LocationCounter → SourceLine → List Label
labels_at p line = if_some (option_map (label_at p) line.label) ++ map (label_past p) (names_said line.says)

-- the labels of lines, the first of which stands at a location counter
unfoldable pub labels_from : LocationCounter → List SourceLine → List Label
labels_from p [] = []
labels_from p (line ∷ lines) = labels_at p line ++ labels_from (counter_after p line.says) lines

-- the labels of a source
abbrev pub labels_of : List SourceLine → List Label
labels_of lines = labels_from first_counter lines

-- the label of a name
unfoldable pub label_named : List Label → List ℕ → Option Label
label_named labels name = find (λ label. bytes_eq label.name name) labels

-- where a label stands
abbrev pub label_position : Label → LabelPosition
label_position label = record { part = label.part; offset = label.offset }

-- what names stand for
abbrev pub Names : Type 0
Names = List ℕ → Option LabelPosition

-- the names of some labels, and those of a source
abbrev pub names_of : List Label → Names
names_of labels name = option_map label_position (label_named labels name)

abbrev pub names_in : List SourceLine → Names
names_in lines = names_of (labels_of lines)

-- ---- addresses

-- where a part begins, for a text of so many bytes
abbrev pub base_of : ℕ → Section → ℕ
base_of text_length Text = text_address
base_of text_length Data = data_address text_length

abbrev pub address_in : ℕ → Section → ℕ → ℕ
address_in text_length part offset = base_of text_length part + offset

abbrev pub label_address : ℕ → LabelPosition → ℕ
label_address text_length label = address_in text_length label.part label.offset

-- the address of the next byte
abbrev pub address_here : ℕ → LocationCounter → ℕ
address_here text_length p = address_in text_length p.part (here p)
