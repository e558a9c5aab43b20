-- The fault of a file that is no plan, told by the places of its lines and of their words.
use Rattle.std.specs.Prelude.{ℕ, ◌^◌, ◌||◌, List, [], ◌∷◌, codes, Option, Some, None, if◌then◌else◌}
use Rattle.std.specs.Str.{bytes_eq}
use Rattle.line_reader.specs.File.{Fault}
use Rattle.line_reader.specs.Places.{Slot, number_slot, IsFileFault}
use Rattle.plan_reader.specs.Plan.{IsLineOf}

-- the numbers after the word of an event: its core, and of a run its turns, which are not 0; any other word
-- is that of no event
unfoldable pub numbers_after : List ℕ → Option (List Slot)
numbers_after word =
    if bytes_eq word (codes "run") then Some (number_slot 0 (2 ^ 32) ∷ number_slot 1 (2 ^ 32) ∷ [])
    else if bytes_eq word (codes "next") || bytes_eq word (codes "fetch") || bytes_eq word (codes "offer")
    then Some (number_slot 0 (2 ^ 32) ∷ [])
    else None

-- the fault of a file that is no plan
abbrev pub IsFaultOf : List ℕ → Fault → Type 0
IsFaultOf bytes fault = IsFileFault IsLineOf numbers_after bytes fault
