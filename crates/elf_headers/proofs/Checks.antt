-- A list of checks, none of which fails.
use Rattle.std.proofs.Common.{◌≡◌, Bool, true, false, Option, Some, None, refl}
use Rattle.std.specs.Option.{option_or}
use Rattle.elf_headers.specs.declared.fault.LoadFault.{LoadFault}
use Rattle.sm_types.specs.Checks.{fault_when, fault_only}

-- a check that is passed, and those after it
pub passed : (test : Bool) (fault : LoadFault) (rest : Option LoadFault) → option_or (fault_when test fault) rest ≡ None → (test ≡ false)
    × (rest ≡ None)
passed true fault rest h = cc
passed false fault rest h = (refl, h)

-- a check alone
pub passed_last : (test : Bool) (fault : LoadFault) → fault_when test fault ≡ None → test ≡ false
passed_last true fault h = cc
passed_last false fault h = refl

-- the last check, which is made where a test holds
pub passed_only : (test : Bool) (check : Option LoadFault) → test ≡ true → option_or (fault_only test check) None ≡ None → check ≡ None
passed_only true None t h = refl
passed_only true (Some fault) t h = cc
passed_only false check t h = cc
