-- The words of a source: one for each line but the three before its first instruction.
-- Source: DDI 0487, the encodings of the instructions; which there are is this project's own.
use Rattle.std.specs.Prelude.{◌≡◌, ℕ, ◌+◌, ◌*◌, ◌%◌, ◌==◌, List, [], ◌∷◌, ◌++◌, map, codes, Some, None}
use Rattle.std.specs.Prelude.{if◌then◌else◌}
use Rattle.std.specs.List.{range_with_len}
use Rattle.sm_types.specs.declared.object.Object.{Object}
use Rattle.sm_types.specs.Objects.{text_address}
use Rattle.asm_core.specs.Assembly.{numbers_bytes}
use Rattle.asm_parser.specs.Statements.{SourceLine, Codes, Instruction, Globals, IntoText, Nothing}
use Rattle.workload.specs.Source.{kind_of, number_at}

-- SMSTART; PTRUE P0.B, ALL; INDEX Z0.B, #0, #1; INDEX Z1.B, #1, #2; MOVZ X9, #32512, LSL #32; MOVZ X10, #1
abbrev pub first_words : List ℕ
first_words = 0xD503477F ∷ 0x2518E3E0 ∷ 0x04214000 ∷ 0x04224021 ∷ 0xD2CFE009 ∷ 0xD280002A ∷ []

-- SMSTOP; MOVZ X8, #93; MOVZ X0, #0; SVC #0
abbrev pub last_words : List ℕ
last_words = 0xD503467F ∷ 0xD2800BA8 ∷ 0xD2800000 ∷ 0xD4000001 ∷ []

-- ADD X12, X12 with an immediate of 12 bits
abbrev pub sum_word : ℕ → ℕ
sum_word addend = 0x9100018C + addend * 1024

-- the word of the line that a number chooses: SMOPA, ADD of vectors, LDADD, or ADD of an immediate
unfoldable pub chosen_word : ℕ → ℕ
chosen_word s =
    if kind_of s == 0 then 0xA0810000
    else if kind_of s == 1 then 0x04210000
    else if kind_of s == 2 then 0xF82A012B
    else sum_word (s % 4096)

-- the words of the source of a number
unfoldable pub source_words : ℕ → List ℕ
source_words number =
    first_words ++ (map (λ i. chosen_word (number_at number i)) (range_with_len 1 number) ++ last_words)

-- a line that is an instruction alone
abbrev pub word_line : ℕ → SourceLine
word_line word = record { label = None; says = Codes (Instruction word None) 1 }

-- the lines before the first instruction: the text, `_start` to be seen from outside, and the label
abbrev pub opening : List SourceLine
opening =
    record { label = None; says = IntoText } ∷ record { label = None; says = Globals (codes "_start") }
    ∷ record { label = Some (codes "_start"); says = Nothing } ∷ []

-- what the lines of the source of a number say
unfoldable pub said_of : ℕ → List SourceLine
said_of number = opening ++ map word_line (source_words number)

-- the object is that of these words: its text is the words, it has no data, and it starts with the first
pub record HasWords (number : ℕ) (object : Object) : Type 0 where
  pub text_is : object.text_bytes.items ≡ numbers_bytes 4 (source_words number)
  pub no_data : object.data_bytes.items ≡ []
  pub entry_is : object.entry ≡ text_address
