use Rattle.std.proofs.Common.{◌≡◌, ◌≤◌, ◌+◌, ◌++◌, length, map, drop, vec_len, vec_capacity}
use Rattle.world_core.specs.Parts.{guests_of, core_guests}
use Rattle.world_core.specs.World.{residents_of}
use Rattle.world_core.proofs.finish.empty_cores.Given as goal

abbrev pub invariant-cores : goal.invariant-cores
invariant-cores l = record {
  moved : guests_of l.into.items ++ residents_of (map core_guests (drop l.index l.cores.items))
      ≡ guests_of l.initial.into.items ++ residents_of (map core_guests l.initial.cores.items);
  room : length (residents_of (map core_guests (drop l.index l.cores.items))) + vec_len l.into ≤ vec_capacity l.into;
  count : vec_len l.cores ≡ vec_len l.initial.cores;
  capacity : vec_capacity l.into ≡ vec_capacity l.initial.into;
}
