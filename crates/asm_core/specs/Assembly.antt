-- The object of a source: the bytes that its lines put, its symbols and its start.
-- Source: the GNU assembler for directives; ELF for the Arm 64-bit Architecture (AArch64), mapping symbols
-- `$x` and `$d`.
use Rattle.std.specs.Prelude.{◌≡◌, ℕ, ◌+◌, ◌^◌, ◌<◌, Bool, true, false, not, ◌&&◌, nat_lt, List, [], ◌∷◌}
use Rattle.std.specs.Prelude.{◌++◌}
use Rattle.std.specs.Prelude.{length, take, drop, map, replicate, slice_get, Option, Some, None, is_some}
use Rattle.std.specs.Prelude.{is_none, codes, if◌then◌else◌}
use Rattle.std.specs.List.{concat}
use Rattle.byteorder.specs.Endian.{little_bytes}
use Rattle.sm_types.specs.declared.object.Section.{Section}
use Rattle.sm_types.specs.declared.object.Section.TheVariants.{Text, Data}
use Rattle.sm_types.specs.declared.object.Symbol.{Symbol}
use Rattle.sm_types.specs.declared.object.Object.{Object}
use Rattle.sm_types.specs.declared.object.Content.{Content}
use Rattle.sm_types.specs.declared.object.Content.TheVariants as content
use Rattle.sm_types.specs.Objects.{name_says, is_same}
use Rattle.a64_encode.specs.Either.{instruction_of}
use Rattle.asm_parser.specs.Statements.{QuadValue, IsNumber, IsAddressOf, TargetSaid, Says, Nothing, IntoText}
use Rattle.asm_parser.specs.Statements.{IntoData, Quads, Words, Bytes, Zeros, Aligns, Globals, Codes}
use Rattle.asm_parser.specs.Statements.{SourceLine}
use Rattle.asm_core.specs.Source.{lines_of, said_lines}
use Rattle.asm_core.specs.declared.location_counter.LocationCounter.{LocationCounter}
use Rattle.asm_core.specs.Layout.{first_counter, here, size_of, counter_after, counter_past, counter_of}
use Rattle.asm_core.specs.Layout.{Names, names_in, Label, label_address, address_in, address_here, labels_at}
use Rattle.asm_core.specs.Code.{CodeWord, code_words}
use Rattle.asm_core.specs.declared.labels.LabelPosition.{LabelPosition}
use Rattle.insn_text.specs.declared.item.Item.{Item}
use Rattle.asm_core.specs.Targets.{word_to}
use Rattle.asm_core.specs.Faults.{asm_fault, start_of, text_length_of}

-- ---- bytes

-- these bytes stand at an offset of others
abbrev pub HasBytes : List ℕ → ℕ → List ℕ → Type 0
HasBytes bytes offset piece = take (length piece) (drop offset bytes) ≡ piece

-- the numbers of so many bytes each, little-endian
abbrev pub numbers_bytes : ℕ → List ℕ → List ℕ
numbers_bytes width numbers = concat (map (little_bytes width) numbers)

abbrev pub address_or_zero : ℕ → Option LabelPosition → ℕ
address_or_zero text_length None = 0
address_or_zero text_length (Some label) = label_address text_length label

-- the number of a value of `.quad`; no name is undefined
unfoldable pub quad_number : ℕ → Names → QuadValue → ℕ
quad_number text_length names (IsNumber n) = n
quad_number text_length names (IsAddressOf name) = address_or_zero text_length (names name)

abbrev pub word_or : ℕ → Option ℕ → ℕ
word_or word None = word
word_or word (Some resolved) = resolved

abbrev pub resolved_at : ℕ → Item → ℕ → ℕ → Option LabelPosition → ℕ
resolved_at text_length i word from None = word
resolved_at text_length i word from (Some label) =
    word_or word (word_to i word from (label_address text_length label))

-- the word of an instruction at an address with the distance to its target, where a name says the target
unfoldable pub resolved : ℕ → Names → ℕ → ℕ → Option TargetSaid → ℕ
resolved text_length names from word None = word
resolved text_length names from word (Some target) =
    resolved_at text_length target.operand word from (names target.name)

-- words with the distances to their targets, of which the first is at an address
unfoldable pub resolved_words : ℕ → Names → ℕ → List CodeWord → List ℕ
resolved_words text_length names from [] = []
resolved_words text_length names from (w ∷ ws) =
    resolved text_length names from w.word w.target ∷ resolved_words text_length names (from + 4) ws

-- the word of 32 bits means an instruction
pub record MeansOne (word : ℕ) : Type 0 where
  pub is_word : word < 2 ^ 32
  pub means : is_some (instruction_of word) ≡ true

-- each of some words does
abbrev pub MeanEach : List ℕ → Type 0
MeanEach [] = Unit {0}
MeanEach (word ∷ words) = MeansOne word × MeanEach words

-- each word means an instruction, and their bytes stand there
pub record AreAssembled (words bytes : List ℕ) (offset : ℕ) : Type 0 where
  pub mean : MeanEach words
  pub stand : HasBytes bytes offset (numbers_bytes 4 words)

-- what a line at a location counter puts stands in its part
unfoldable pub Puts : ℕ → Names → List ℕ → LocationCounter → Says → Type 0
Puts text_length names bytes p (Codes code column) =
    AreAssembled (resolved_words text_length names (address_here text_length p) (code_words code)) bytes
    (here p)
Puts text_length names bytes p (Quads values) =
    HasBytes bytes (here p) (numbers_bytes 8 (map (quad_number text_length names) values))
Puts text_length names bytes p (Words numbers) = HasBytes bytes (here p) (numbers_bytes 4 numbers)
Puts text_length names bytes p (Bytes numbers) = HasBytes bytes (here p) numbers
Puts text_length names bytes p (Zeros count) = HasBytes bytes (here p) (replicate count 0)
Puts text_length names bytes p (Aligns power) =
    HasBytes bytes (here p) (replicate (size_of (Aligns power) (here p)) 0)
Puts text_length names bytes p Nothing = Unit {0}
Puts text_length names bytes p IntoText = Unit {0}
Puts text_length names bytes p IntoData = Unit {0}
Puts text_length names bytes p (Globals name) = Unit {0}

abbrev pub part_bytes : Object → Section → List ℕ
part_bytes object Text = object.text_bytes.items
part_bytes object Data = object.data_bytes.items

-- ---- symbols

pub record SymbolSaid : Type 0 where
  pub name : List ℕ
  pub address : ℕ
  pub section : Section

abbrev pub symbol_said : Symbol → SymbolSaid
symbol_said symbol = record { name = symbol.name.items; address = symbol.address; section = symbol.section }

-- the symbol of a label; one that is called like a mapping symbol has none
unfoldable pub label_symbol : ℕ → Label → List SymbolSaid
label_symbol text_length label =
    if is_none (name_says label.name) then record {
      name = label.name;
      address = address_in text_length label.part label.offset;
      section = label.part;
    } ∷ [] else []

-- the symbols of labels
unfoldable pub label_symbols : ℕ → List Label → List SymbolSaid
label_symbols text_length [] = []
label_symbols text_length (l ∷ ls) = label_symbol text_length l ++ label_symbols text_length ls

-- a line puts code
unfoldable pub puts_code : Says → Bool
puts_code (Codes code column) = true
puts_code Nothing = false
puts_code IntoText = false
puts_code IntoData = false
puts_code (Quads values) = false
puts_code (Words numbers) = false
puts_code (Bytes numbers) = false
puts_code (Zeros count) = false
puts_code (Aligns power) = false
puts_code (Globals name) = false

abbrev pub fills_in : Section → ℕ → Bool
fills_in Text size = nat_lt 0 size
fills_in Data size = false

-- a line puts bytes into the text
unfoldable pub fills_text : LocationCounter → Says → Bool
fills_text p says = fills_in p.part (size_of says (here p))

-- what the bytes of a line are: those of instructions are code, all others data
unfoldable pub content_of : Says → Content
content_of says = if puts_code says then content.Code else content.Data

-- what the text is after a line: code, data, or nothing yet
unfoldable pub text_is : LocationCounter → Says → Option Content → Option Content
text_is p says before = if fills_text p says then Some (content_of says) else before

abbrev pub mapping_name : Content → List ℕ
mapping_name content.Code = codes "$x"
mapping_name content.Data = codes "$d"

-- the mapping symbol of a line, where the text changes between code and data with it
unfoldable pub mapping_symbol : ℕ → LocationCounter → Says → Option Content → List SymbolSaid
mapping_symbol text_length p says before =
    if fills_text p says && not (is_same before (content_of says))
    then record {
      name = mapping_name (content_of says);
      address = address_here text_length p;
      section = p.part;
    } ∷ []
    else []

-- the symbols of lines in their order: of each line those of its labels and then its mapping symbol
unfoldable pub symbols_from : ℕ → LocationCounter → Option Content → List SourceLine → List SymbolSaid
symbols_from text_length p before [] = []
symbols_from text_length p before (line ∷ lines) =
    label_symbols text_length (labels_at p line) ++ (mapping_symbol text_length p line.says before
    ++ symbols_from text_length (counter_after p line.says) (text_is p line.says before) lines)

-- ---- the object

-- the object is what the lines mean
pub record IsObjectOf (lines : List SourceLine) (object : Object) : Type 0 where
  pub text_size : length object.text_bytes.items ≡ text_length_of lines
  pub data_size : length object.data_bytes.items ≡ (counter_past first_counter lines).data_size
  pub puts : (k : ℕ) (line : SourceLine) → slice_get lines k ≡ Some line
      → Puts (text_length_of lines) (names_in lines) (part_bytes object (counter_of lines k).part)
      (counter_of lines k) line.says
  pub symbols :
      map symbol_said object.symbols.items ≡ symbols_from (text_length_of lines) first_counter None lines
  pub starts : start_of (text_length_of lines) (names_in lines) ≡ Some object.entry

-- the source is assembled to this object
pub record Assembles (source : List ℕ) (object : Object) : Type 0 where
  pub accepted : asm_fault source ≡ None
  pub object_is : IsObjectOf (said_lines (lines_of source)) object

-- two objects are one: their bytes, their symbols and their start are
pub record IsSameObject (object other : Object) : Type 0 where
  pub text_bytes : object.text_bytes.items ≡ other.text_bytes.items
  pub data_bytes : object.data_bytes.items ≡ other.data_bytes.items
  pub symbols : map symbol_said object.symbols.items ≡ map symbol_said other.symbols.items
  pub entry : object.entry ≡ other.entry
