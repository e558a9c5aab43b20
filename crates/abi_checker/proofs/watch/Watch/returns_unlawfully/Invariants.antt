use Rattle.std.proofs.Common.{◌-◌, ◌<◌, ℕ, get_or, length}
use Rattle.kernel_contexts.specs.Context.{state_of}
use Rattle.abi_checker.specs.Returning.{IsFine}
use Rattle.abi_checker.specs.declared.open_call.OpenCall.{OpenCall}
use Rattle.abi_checker.proofs.watch.Watch.returns_unlawfully.Given as goal

abbrev pub invariant-calls : goal.invariant-calls
invariant-calls l =
    (k : ℕ) (d : OpenCall) → k < l.index → IsFine (state_of l.context) (get_or l.self.calls.items k d)

abbrev pub decreases-calls : goal.decreases-calls
decreases-calls l = length l.self.calls.items - l.index
