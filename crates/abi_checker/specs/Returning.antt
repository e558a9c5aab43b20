-- Whether a call of which something is kept returns in a state, and whether its callee was lawful.
use Rattle.std.specs.Prelude.{◌≡◌, ◌==◌, ◌&&◌, Bool, true}
use Rattle.kernel_contexts.specs.State.{State}
use Rattle.lazy_saving.specs.Dormant.{IsLawful}
use Rattle.za_routines.specs.Places.{places_of}
use Rattle.abi_checker.specs.Faults.{block_of}
use Rattle.abi_checker.specs.Keeping.{IsKept}
use Rattle.abi_checker.specs.declared.open_call.OpenCall.{OpenCall}

-- the state is back from the call
abbrev pub is_back : State → OpenCall → Bool
is_back r call =
    (r.core.scalars.pc == call.places.tail) && ((r.core.scalars.sp == call.sp) && (r.depth == call.depth))

-- there is a state of which this was kept
abbrev pub IsOfSome : OpenCall → Type 0
IsOfSome call = (s : State) × IsKept call s

-- if it is back, the callee was lawful, from each state of which this was kept
abbrev pub IsFine : State → OpenCall → Type 0
IsFine r call =
    is_back r call ≡ true → (s : State) → IsKept call s
    → IsLawful (places_of call.places) s.core r.core (block_of s)

-- it is back, and the callee was not lawful, from none of them
pub record IsUnlawful (r : State) (call : OpenCall) : Type 0 where
  pub back : is_back r call ≡ true
  pub unlawful : (s : State) → IsKept call s → ¬ IsLawful (places_of call.places) s.core r.core (block_of s)
