use Rattle.std.proofs.Common.{◌-◌, ◌≡◌, ◌≢◌, ◌≤◌, ◌<◌, ℕ, Some, length}
use Rattle.std.specs.Prelude.{slice_get}
use Rattle.kernel_contexts.specs.Context.{thread_of}
use Rattle.core_unit.proofs.moves.place_of.Given as goal

abbrev pub invariant-places : goal.invariant-places
invariant-places g l = record {
  few : l.place ≤ length l.residents.items;
  others : (i : ℕ) (r : _) → i < l.place → slice_get l.residents.items i ≡ Some r → thread_of r.context ≢ l.thread;
}

abbrev pub decreases-places : goal.decreases-places
decreases-places g l = length l.residents.items - l.place
