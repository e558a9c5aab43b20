-- Checks one after the other.
use Rattle.std.specs.Prelude.{Bool, true, false, List, [], ◌∷◌, Option, Some, None}
use Rattle.std.specs.Option.{option_or}

-- the fault of the first of a list of checks that has one
abbrev pub first_fault : {F : Type 0} → List (Option F) → Option F
first_fault [] = None
first_fault (check ∷ checks) = option_or check (first_fault checks)

-- the fault, where the test holds
abbrev pub fault_when : {F : Type 0} → Bool → F → Option F
fault_when true fault = Some fault
fault_when false fault = None

-- the check, where the test holds
abbrev pub fault_only : {F : Type 0} → Bool → Option F → Option F
fault_only true check = check
fault_only false check = None
