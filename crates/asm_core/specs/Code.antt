-- The words that code puts, and the names that it gives to some of them.
-- Source: AAPCS64, the ZA lazy saving scheme; the words of its routines are this project's own.
use Rattle.std.specs.Prelude.{ℕ, ◌*◌, List, [], ◌∷◌, ◌++◌, length, take, drop, map, Option, Some, None}
use Rattle.std.specs.Prelude.{codes}
use Rattle.sm_types.specs.Routines.{save_words, disable_words, restore_words, tail_words, call_word}
use Rattle.a64_table.specs.declared.fields.TheConstants.{IMM26}
use Rattle.insn_text.specs.declared.item.Kind.TheVariants as kind
use Rattle.insn_text.specs.declared.item.Rule.TheVariants.{Free}
use Rattle.asm_core.specs.declared.routines.Routine.{Routine}
use Rattle.asm_core.specs.declared.routines.Routine.TheVariants.{Save, Disable, Restore}
use Rattle.asm_parser.specs.Statements.{TargetSaid, Code, Instruction, SupportRoutines, CallTail, Says}
use Rattle.asm_parser.specs.Statements.{Nothing, IntoText, IntoData, Quads, Words, Bytes, Zeros, Aligns}
use Rattle.asm_parser.specs.Statements.{Globals, Codes}

-- a word of code, and its target where that is a name, the distance in the word being 0 then
pub record CodeWord : Type 0 where
  pub word : ℕ
  pub target : Option TargetSaid

abbrev pub plain_word : ℕ → CodeWord
plain_word word = record { word = word; target = None }

abbrev pub plain_words : List ℕ → List CodeWord
plain_words words = map plain_word words

-- the words of the three routines, one after the other
abbrev pub routine_words : List ℕ
routine_words = save_words ++ (disable_words ++ restore_words)

-- the target of the tail's BL, whose operand is the distance (DDI 0487, BL)
abbrev pub restore_target : TargetSaid
restore_target = record {
  name = codes "__arm_tpidr2_restore";
  operand = record { kind = kind.Distance 4; field = IMM26; rule = Free };
}

-- the words of the tail, of which word 4 is the BL
abbrev pub tail_code : List CodeWord
tail_code =
    plain_words (take 4 (tail_words (call_word 0)))
    ++ (record { word = call_word 0; target = Some restore_target }
    ∷ plain_words (drop 5 (tail_words (call_word 0))))

-- the words of code: of an instruction its own
unfoldable pub code_words : Code → List CodeWord
code_words (Instruction word target) = record { word = word; target = target } ∷ []
code_words SupportRoutines = plain_words routine_words
code_words CallTail = tail_code

-- a name of the byte at an offset of a line's bytes
pub record NamedByte : Type 0 where
  pub name : List ℕ
  pub offset : ℕ

-- the name of a routine, where it begins
abbrev pub named_byte : Routine → NamedByte
named_byte Save = record { name = codes "__arm_tpidr2_save"; offset = 0 }
named_byte Disable = record { name = codes "__arm_za_disable"; offset = 4 * length save_words }
named_byte Restore =
    record { name = codes "__arm_tpidr2_restore"; offset = 4 * length (save_words ++ disable_words) }

-- the names of the three
abbrev pub routine_names : List NamedByte
routine_names = named_byte Save ∷ named_byte Disable ∷ named_byte Restore ∷ []

-- the names that code brings with it
abbrev pub code_names : Code → List NamedByte
code_names SupportRoutines = routine_names
code_names (Instruction word target) = []
code_names CallTail = []

-- the names that a line's directive brings with it
abbrev pub names_said : Says → List NamedByte
names_said (Codes code column) = code_names code
names_said Nothing = []
names_said IntoText = []
names_said IntoData = []
names_said (Quads values) = []
names_said (Words numbers) = []
names_said (Bytes numbers) = []
names_said (Zeros count) = []
names_said (Aligns power) = []
names_said (Globals name) = []
