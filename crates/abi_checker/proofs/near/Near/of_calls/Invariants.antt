use Rattle.std.proofs.Common.{◌≡◌, ◌<◌, ℕ, true, get_or}
use Rattle.abi_checker.specs.Near.{is_near}
use Rattle.abi_checker.specs.declared.open_call.OpenCall.{OpenCall}
use Rattle.abi_checker.proofs.near.Near.of_calls.Given as goal

abbrev pub invariant-calls : goal.invariant-calls
invariant-calls l = (k : ℕ) (d : OpenCall) → k < l.index → is_near l.near (get_or l.calls k d).places.tail ≡ true
