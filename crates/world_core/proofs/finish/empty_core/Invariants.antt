use Rattle.std.proofs.Common.{◌≡◌, ◌≤◌, ◌+◌, ◌++◌, length, vec_len, vec_capacity}
use Rattle.world_core.specs.Parts.{guests_of, core_guests}
use Rattle.world_core.proofs.finish.empty_core.Given as goal

abbrev pub invariant-residents : goal.invariant-residents
invariant-residents l = record {
  moved : guests_of l.into.items ++ core_guests l.core ≡ guests_of l.initial.into.items ++ core_guests l.initial.core;
  room : length (core_guests l.core) + vec_len l.into ≤ vec_capacity l.into;
  capacity : vec_capacity l.into ≡ vec_capacity l.initial.into;
}

abbrev pub decreases-residents : goal.decreases-residents
decreases-residents l = length (core_guests l.core)
