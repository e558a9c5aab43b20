-- The command that the words of a line say, or what is wrong with the first of them that does not say it.
use Rattle.std.specs.Prelude.{ℕ, ◌^◌, ◌&&◌, nat_le, Bool, List, length, take, drop, codes, Option, Some, None}
use Rattle.std.specs.Prelude.{if◌then◌else◌}
use Rattle.std.specs.List.{list_all}
use Rattle.std.specs.Str.{bytes_eq}
use Rattle.line_reader.specs.Numbers.{is_digit_of, value_in}
use Rattle.line_reader.specs.declared.numbers.Base.TheVariants.{SixteenAnyCase}
use Rattle.line_reader.specs.Phrases.{Phrase, Start, ◌>>=◌, give, first_word, field, number, ended}
use Rattle.line_reader.specs.declared.text_fault.TextKind.TheVariants.{Unknown, BadNumber}
use Rattle.sm_types.specs.declared.vector.Elem.{Elem}
use Rattle.sm_types.specs.declared.vector.Elem.TheVariants as elem
use Rattle.script_reader.specs.declared.command.DebugCommand.{DebugCommand}
use Rattle.script_reader.specs.declared.command.DebugCommand.TheVariants as command
use Rattle.script_reader.specs.declared.command.Direction.{Direction}
use Rattle.script_reader.specs.declared.command.Direction.TheVariants as direction
use Rattle.script_reader.specs.declared.words.Verb.{Verb}
use Rattle.script_reader.specs.declared.words.Verb.TheVariants as verb

-- ---- each word

-- the command of a word
unfoldable pub verb_of : List ℕ → Option Verb
verb_of word =
    if bytes_eq word (codes "step") then Some verb.Step
    else if bytes_eq word (codes "back") then Some verb.Back
    else if bytes_eq word (codes "goto") then Some verb.Goto
    else if bytes_eq word (codes "break") then Some verb.Break
    else if bytes_eq word (codes "slice") then Some verb.Slice
    else if bytes_eq word (codes "mem") then Some verb.Memory
    else if bytes_eq word (codes "regs") then Some verb.Registers
    else if bytes_eq word (codes "za") then Some verb.Za
    else if bytes_eq word (codes "where") then Some verb.Where
    else None

-- the size of elements of a letter
unfoldable pub size_of : List ℕ → Option Elem
size_of word =
    if bytes_eq word (codes "b") then Some elem.B
    else if bytes_eq word (codes "h") then Some elem.H
    else if bytes_eq word (codes "s") then Some elem.S
    else if bytes_eq word (codes "d") then Some elem.D
    else if bytes_eq word (codes "q") then Some elem.Q
    else None

-- the slices of a letter
unfoldable pub direction_of : List ℕ → Option Direction
direction_of word =
    if bytes_eq word (codes "h") then Some direction.Horizontal
    else if bytes_eq word (codes "v") then Some direction.Vertical
    else None

-- it begins with `0x`, and has 1 to 16 characters after it
unfoldable pub begins_address : List ℕ → Bool
begins_address word =
    nat_le 3 (length word) && nat_le (length word) 18 && bytes_eq (take 2 word) (codes "0x")

-- `0x`, and 1 to 16 hexadecimal digits of either case
unfoldable pub is_address : List ℕ → Bool
is_address word = begins_address word && list_all (is_digit_of SixteenAnyCase) (drop 2 word)

-- the address that a word writes
unfoldable pub address_of : List ℕ → Option ℕ
address_of word = if is_address word then Some (value_in SixteenAnyCase (drop 2 word)) else None

-- ---- the words of a command

-- the size of elements, the tile, its slices, and which of them
unfoldable pub slice_said : Start DebugCommand
slice_said = do
  size ← field Unknown size_of
  tile ← number 0 (2 ^ 32)
  direction ← field Unknown direction_of
  slice ← number 0 (2 ^ 32)
  give (command.Slice size tile direction slice)

-- an address, and at most 4,096 bytes
unfoldable pub memory_said : Start DebugCommand
memory_said = do
  address ← field BadNumber address_of
  count ← number 0 4097
  give (command.Memory address count)

-- the operands of a command
unfoldable pub command_of : Verb → Start DebugCommand
command_of verb.Step = do
  count ← number 0 (2 ^ 32)
  give (command.Step count)
command_of verb.Back = do
  count ← number 0 (2 ^ 32)
  give (command.Back count)
command_of verb.Goto = do
  count ← number 0 (2 ^ 32)
  give (command.Goto count)
command_of verb.Break = do
  address ← field BadNumber address_of
  give (command.Break address)
command_of verb.Slice = slice_said
command_of verb.Memory = memory_said
command_of verb.Registers = give command.Registers
command_of verb.Za = give command.Za
command_of verb.Where = give command.Where

-- the word of a command, and its operands
unfoldable pub command_in : Phrase DebugCommand
command_in = do
  verb ← first_word verb_of
  command ← command_of verb
  ended command
