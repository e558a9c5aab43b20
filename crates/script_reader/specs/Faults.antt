-- The fault of a file that is no script, told by the places of its lines and of their words.
use Rattle.std.specs.Prelude.{ℕ, ◌^◌, ◌||◌, Bool, List, [], ◌∷◌, codes, Option, Some, None, if◌then◌else◌}
use Rattle.std.specs.Str.{bytes_eq}
use Rattle.line_reader.specs.File.{Fault}
use Rattle.line_reader.specs.Places.{Slot, number_slot, IsFileFault}
use Rattle.line_reader.specs.declared.text_fault.TextKind.TheVariants.{Unknown, BadNumber}
use Rattle.script_reader.specs.Words.{is_address}
use Rattle.script_reader.specs.Script.{IsLineOf}

-- ---- what may stand after the word of a command

-- any number below 2^32
abbrev pub any_number : Slot
any_number = number_slot 0 (2 ^ 32)

-- a number of bytes, at most 4,096
abbrev pub byte_count : Slot
byte_count = number_slot 0 4097

abbrev pub address : Slot
address = record { fits = is_address; otherwise = BadNumber }

unfoldable pub is_size : List ℕ → Bool
is_size word =
    bytes_eq word (codes "b") || bytes_eq word (codes "h") || bytes_eq word (codes "s")
    || bytes_eq word (codes "d") || bytes_eq word (codes "q")

abbrev pub size : Slot
size = record { fits = is_size; otherwise = Unknown }

unfoldable pub is_direction : List ℕ → Bool
is_direction word = bytes_eq word (codes "h") || bytes_eq word (codes "v")

abbrev pub direction : Slot
direction = record { fits = is_direction; otherwise = Unknown }

-- what is to stand after the word of a command; any other word is that of none
unfoldable pub operands_after : List ℕ → Option (List Slot)
operands_after word =
    if bytes_eq word (codes "step") || bytes_eq word (codes "back") || bytes_eq word (codes "goto")
    then Some (any_number ∷ [])
    else if bytes_eq word (codes "break") then Some (address ∷ [])
    else if bytes_eq word (codes "slice") then Some (size ∷ any_number ∷ direction ∷ any_number ∷ [])
    else if bytes_eq word (codes "mem") then Some (address ∷ byte_count ∷ [])
    else if bytes_eq word (codes "regs") || bytes_eq word (codes "za") || bytes_eq word (codes "where")
    then Some []
    else None

-- the fault of a file that is no script
abbrev pub IsFaultOf : List ℕ → Fault → Type 0
IsFaultOf bytes fault = IsFileFault IsLineOf operands_after bytes fault
