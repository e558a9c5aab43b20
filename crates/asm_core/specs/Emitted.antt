-- What the second pass has put of a source, line by line.
use Rattle.std.specs.Prelude.{◌≡◌, ℕ, ◌≤◌, Bool, List, [], ◌∷◌, ◌++◌, length, map, replicate}
use Rattle.std.specs.Prelude.{Option, Some, None, Ok, true, false, is_some}
use Rattle.insn_text.specs.declared.item.Item.{Item}
use Rattle.asm_operands.specs.Distances.{with_distance}
use Rattle.asm_operands.specs.Sound.{is_sound}
use Rattle.sm_types.specs.declared.object.Section.{Section}
use Rattle.sm_types.specs.declared.object.Section.TheVariants.{Text, Data}
use Rattle.a64_encode.specs.Either.{instruction_of}
use Rattle.asm_parser.specs.Statements.{TargetSaid, Says, Nothing, IntoText, IntoData, Quads, Words, Bytes}
use Rattle.asm_parser.specs.Statements.{Zeros, Aligns, Globals, Codes, SourceLine}
use Rattle.asm_parser.specs.Lines.{line_of}
use Rattle.asm_core.specs.declared.location_counter.LocationCounter.{LocationCounter}
use Rattle.asm_core.specs.declared.target_addresses.Addresses.{Addresses}
use Rattle.asm_core.specs.declared.labels.LabelPosition.{LabelPosition}
use Rattle.asm_core.specs.declared.object_parts.Parts.{Parts}
use Rattle.sm_types.specs.declared.object.Content.{Content}
use Rattle.asm_core.specs.Code.{CodeWord, code_words}
use Rattle.asm_core.specs.Layout.{Names, here, size_of, address_here, labels_at}
use Rattle.asm_core.specs.Assembly.{numbers_bytes, quad_number, resolved_words, MeanEach, SymbolSaid}
use Rattle.asm_core.specs.Assembly.{symbol_said, label_symbols}
use Rattle.asm_core.specs.Assembly.{mapping_symbol}
use Rattle.asm_core.specs.Faults.{is_too_large}
use Rattle.asm_core.specs.Known.{known}
use Rattle.asm_core.specs.Resolved.{MeansResolved}
use Rattle.asm_core.specs.Targets.{word_to}
use Rattle.asm_core.specs.Parts.{bytes_in}

-- with each distance that the operand holds the word means an instruction: the same with that distance; with
-- another no word does
pub record CanHave (i : Item) (word : ℕ) : Type 0 where
  pub sound : is_sound i ≡ true
  pub means :
      (back : Bool) (size resolved : ℕ) → with_distance i word back size ≡ Some resolved
      → is_some (instruction_of resolved) ≡ true
  pub resolves : (from to resolved : ℕ) → word_to i word from to ≡ Some resolved
      → MeansResolved word from to resolved
  pub far : (from to : ℕ) → word_to i word from to ≡ None → (resolved : ℕ)
      → MeansResolved word from to resolved → ⊥

abbrev pub CanBeResolved : ℕ → Option TargetSaid → Type 0
CanBeResolved word None = Unit {0}
CanBeResolved word (Some target) = CanHave target.operand word

-- the word means an instruction, and it does with each distance to its target
pub record IsMeant (word : ℕ) (target : Option TargetSaid) : Type 0 where
  pub means : is_some (instruction_of word) ≡ true
  pub resolves : CanBeResolved word target

-- each word means an instruction, and it does with each distance to its target
abbrev pub AreMeant : List CodeWord → Type 0
AreMeant [] = Unit {0}
AreMeant (w ∷ words) = IsMeant w.word w.target × AreMeant words

-- the words of a line mean instructions, where it puts code
abbrev pub HasWord : Says → Type 0
HasWord (Codes code column) = AreMeant (code_words code)
HasWord Nothing = Unit {0}
HasWord IntoText = Unit {0}
HasWord IntoData = Unit {0}
HasWord (Quads values) = Unit {0}
HasWord (Words numbers) = Unit {0}
HasWord (Bytes numbers) = Unit {0}
HasWord (Zeros count) = Unit {0}
HasWord (Aligns power) = Unit {0}
HasWord (Globals name) = Unit {0}

-- the line is in the grammar, and its part has at most 4 MiB with it
pub record IsFine (p : LocationCounter) (text : List ℕ) : Type 0 where
  pub line : SourceLine
  pub says : line_of text ≡ Ok line
  pub fits : is_too_large p line.says ≡ false

-- what the names of the addresses stand for
abbrev pub names_by : Addresses → Names
names_by addresses = known addresses.labels.now

-- each part has at most 4 MiB: the text, and what stands before a label
pub record AreNear (addresses : Addresses) : Type 0 where
  pub text : addresses.text_size ≤ 4194304
  pub labels :
      (name : List ℕ) (position : LabelPosition) → known addresses.labels.now name ≡ Some position
      → position.offset ≤ 4194304

-- the words mean instructions, and these are their bytes
pub record AreWordsOf (words piece : List ℕ) : Type 0 where
  pub mean : MeanEach words
  pub bytes : piece ≡ numbers_bytes 4 words

-- the bytes of words that mean instructions follow others
pub record AreWordsAfter (words old new : List ℕ) : Type 0 where
  pub mean : MeanEach words
  pub added : new ≡ old ++ numbers_bytes 4 words

-- the bytes that a line at a location counter puts
unfoldable pub IsPiece : ℕ → Names → LocationCounter → Says → List ℕ → Type 0
IsPiece text_length names p (Codes code column) piece =
    AreWordsOf (resolved_words text_length names (address_here text_length p) (code_words code)) piece
IsPiece text_length names p (Quads values) piece =
    piece ≡ numbers_bytes 8 (map (quad_number text_length names) values)
IsPiece text_length names p (Words numbers) piece = piece ≡ numbers_bytes 4 numbers
IsPiece text_length names p (Bytes numbers) piece = piece ≡ numbers
IsPiece text_length names p (Zeros count) piece = piece ≡ replicate count 0
IsPiece text_length names p (Aligns power) piece = piece ≡ replicate (size_of (Aligns power) (here p)) 0
IsPiece text_length names p Nothing piece = Unit {0}
IsPiece text_length names p IntoText piece = Unit {0}
IsPiece text_length names p IntoData piece = Unit {0}
IsPiece text_length names p (Globals name) piece = Unit {0}

-- the bytes of a line follow others, as many as its size says
pub record Adds (text_length : ℕ) (names : Names) (p : LocationCounter) (says : Says)
    (old new : List ℕ) : Type 0 where
  pub piece : List ℕ
  pub added : new ≡ old ++ piece
  pub size : length piece ≡ size_of says (here p)
  pub piece_is : IsPiece text_length names p says piece

-- the other part
abbrev pub other : Section → Section
other Text = Data
other Data = Text

abbrev pub one_symbol : List ℕ → ℕ → Section → List SymbolSaid
one_symbol name address section = record { name = name; address = address; section = section } ∷ []

-- the symbols of a line
unfoldable pub line_symbols : ℕ → LocationCounter → Option Content → SourceLine → List SymbolSaid
line_symbols text_length p before line =
    label_symbols text_length (labels_at p line) ++ mapping_symbol text_length p line.says before

-- the parts have grown by a line at a location counter: by its bytes, and by its symbols
pub record HaveGrown (text_length : ℕ) (names : Names) (p : LocationCounter) (before : Option Content)
    (line : SourceLine) (old new : Parts) : Type 0 where
  pub bytes : Adds text_length names p line.says (bytes_in old p.part) (bytes_in new p.part)
  pub others : bytes_in new (other p.part) ≡ bytes_in old (other p.part)
  pub symbols :
      map symbol_said new.symbols.items
      ≡ map symbol_said old.symbols.items ++ line_symbols text_length p before line
