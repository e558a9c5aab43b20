-- What the first pass keeps of the lines of a source.
use Rattle.std.specs.Prelude.{◌≡◌, ℕ, List, [], ◌∷◌, Option, Some, None, Ok, IfSome}
use Rattle.asm_parser.specs.Statements.{TargetSaid, Says, Codes, Instruction, SourceLine}
use Rattle.asm_parser.specs.Lines.{line_of}
use Rattle.asm_core.specs.declared.kept_words.KeptWord.{KeptWord}

-- what a line says of which a word was kept: the instruction alone
abbrev pub said_by : KeptWord → SourceLine
said_by kept = record { label = None; says = Codes (Instruction kept.word None) kept.column }

abbrev pub kept_word : ℕ → Option TargetSaid → ℕ → Option KeptWord
kept_word word None column = Some (record { word = word; column = column })
kept_word word (Some target) column = None

abbrev pub kept_in : Says → Option KeptWord
kept_in (Codes (Instruction word target) column) = kept_word word target column
kept_in other = None

abbrev pub kept_from : Option (List ℕ) → Says → Option KeptWord
kept_from None says = kept_in says
kept_from (Some name) says = None

-- what is kept of a line
abbrev pub kept_of : SourceLine → Option KeptWord
kept_of line = kept_from line.label line.says

-- what is kept of a text is what it says
abbrev pub IsKept : Option KeptWord → List ℕ → Type 0
IsKept kept text = IfSome kept (λ word. line_of text ≡ Ok (said_by word))

-- these are kept of some texts, in their order; the others are to be read again
abbrev pub AreKept : List (Option KeptWord) → List (List ℕ) → Type 0
AreKept [] texts = Unit {0}
AreKept (kept ∷ more) [] = Unit {0}
AreKept (kept ∷ more) (text ∷ texts) = IsKept kept text × AreKept more texts

abbrev pub first_kept : List (Option KeptWord) → Option KeptWord
first_kept [] = None
first_kept (kept ∷ more) = kept
