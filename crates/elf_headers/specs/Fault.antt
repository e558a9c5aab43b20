-- What a check tells.
use Rattle.std.specs.Prelude.{◌≡◌, Option, Some, None, Result, Ok, Err}
use Rattle.elf_headers.specs.declared.fault.LoadFault.{LoadFault}

-- a check's result tells the fault, if there is one
abbrev pub Tells : {A : Type 0} → Result A LoadFault → Option LoadFault → Type 0
Tells (Ok value) fault = fault ≡ None
Tells (Err error) fault = fault ≡ Some error
