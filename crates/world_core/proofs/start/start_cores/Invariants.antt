use Rattle.std.proofs.Common.{◌≡◌, ◌≤◌, ℕ, [], Some, map, vec_len, vec_capacity}
use Rattle.std.specs.Prelude.{replicate, slice_get}
use Rattle.core_unit.specs.View.{core_state}
use Rattle.world_core.specs.Parts.{IsCoreOf, core_guests}
use Rattle.world_core.proofs.start.start_cores.Given as goal

abbrev pub invariant-cores : goal.invariant-cores
invariant-cores l = record {
  so_far : map core_guests l.cores.items ≡ replicate l.number [];
  fit : (i : ℕ) (c : _) → slice_get l.cores.items i ≡ Some c → IsCoreOf l.config i (core_state c);
  count : vec_len l.cores ≡ l.number;
  room : l.config.cores ≤ vec_capacity l.cores;
}
