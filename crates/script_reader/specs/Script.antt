-- The script of the debugger: a file with a command on each line that is not empty.
use Rattle.std.specs.Prelude.{◌≡◌, ℕ, ◌^◌, ◌<◌, ◌≤◌, true, List, [], ◌∷◌, ◌++◌, length, codes, decimal, Result}
use Rattle.std.specs.Char.{is_ascii_hexdigit}
use Rattle.std.specs.List.{list_all}
use Rattle.std.specs.Str.Parse.{digits_value}
use Rattle.line_reader.specs.Lines.{line_text, words_in}
use Rattle.line_reader.specs.File.{Fault, Say, file_lines, file_in}
use Rattle.sm_types.specs.declared.vector.Elem.{Elem}
use Rattle.sm_types.specs.declared.vector.Elem.TheVariants as elem
use Rattle.script_reader.specs.Words.{command_in}
use Rattle.script_reader.specs.declared.command.DebugCommand.{DebugCommand}
use Rattle.script_reader.specs.declared.command.DebugCommand.TheVariants.{Step, Back, Goto, Break, Registers}
use Rattle.script_reader.specs.declared.command.DebugCommand.TheVariants.{Za, Slice, Memory, Where}
use Rattle.script_reader.specs.declared.command.Direction.{Direction}
use Rattle.script_reader.specs.declared.command.Direction.TheVariants.{Horizontal, Vertical}

-- a word writes an address: `0x`, and 1 to 16 hexadecimal digits of either case
pub record IsAddress (word : List ℕ) (address : ℕ) : Type 0 where
  pub digits : List ℕ
  pub is : word ≡ codes "0x" ++ digits
  pub some : 1 ≤ length digits
  pub most : length digits ≤ 16
  pub hexadecimal : list_all is_ascii_hexdigit digits ≡ true
  pub value : digits_value 16 digits ≡ address

-- the letter of a size of elements
abbrev pub size_letter : Elem → List ℕ
size_letter elem.B = codes "b"
size_letter elem.H = codes "h"
size_letter elem.S = codes "s"
size_letter elem.D = codes "d"
size_letter elem.Q = codes "q"

-- the letter of a tile's slices: its rows or its columns
abbrev pub direction_letter : Direction → List ℕ
direction_letter Horizontal = codes "h"
direction_letter Vertical = codes "v"

-- these words say the command; its numbers are below 2^32, and at most 4,096 bytes are shown
abbrev pub AreWordsFor : DebugCommand → List (List ℕ) → Type 0
AreWordsFor (Step count) words = (count < 2 ^ 32) × (words ≡ codes "step" ∷ decimal count ∷ [])
AreWordsFor (Back count) words = (count < 2 ^ 32) × (words ≡ codes "back" ∷ decimal count ∷ [])
AreWordsFor (Goto count) words = (count < 2 ^ 32) × (words ≡ codes "goto" ∷ decimal count ∷ [])
AreWordsFor (Break address) words =
    (word : List ℕ) × IsAddress word address × (words ≡ codes "break" ∷ word ∷ [])
AreWordsFor Registers words = words ≡ codes "regs" ∷ []
AreWordsFor Za words = words ≡ codes "za" ∷ []
AreWordsFor (Slice size tile direction slice) words =
    (tile < 2 ^ 32) × (slice < 2 ^ 32) × (words ≡ codes "slice" ∷ size_letter size ∷ decimal tile
    ∷ direction_letter direction ∷ decimal slice ∷ [])
AreWordsFor (Memory address count) words =
    (word : List ℕ) × IsAddress word address × (count ≤ 4096)
    × (words ≡ codes "mem" ∷ word ∷ decimal count ∷ [])
AreWordsFor Where words = words ≡ codes "where" ∷ []

-- a line says a command, with one space between two words, whether or not a line feed ends it
abbrev pub IsLineOf : List ℕ → DebugCommand → Type 0
IsLineOf line command = AreWordsFor command (words_in (line_text line))

-- a file is the script of these commands
pub record IsScriptOf (bytes : List ℕ) (commands : List DebugCommand) : Type 0 where
  pub fits : length bytes ≤ 67108864
  pub said : Say IsLineOf (file_lines bytes) commands

-- the commands of the script that a file is, or its first line at fault
unfoldable pub script_in : List ℕ → Result (List DebugCommand) Fault
script_in bytes = file_in command_in bytes
