use Rattle.std.proofs.Common.{◌≡◌, ◌≤◌, map, vec_len, vec_capacity}
use Rattle.std.specs.List.{range_with_len}
use Rattle.world_core.specs.Parts.{HaveOptions, guests_of}
use Rattle.world_core.specs.World.{starting}
use Rattle.world_core.proofs.start.start_threads.Given as goal

abbrev pub invariant-threads : goal.invariant-threads
invariant-threads l = record {
  so_far : guests_of l.queue.items ≡ map (starting l.image l.config) (range_with_len 0 l.thread);
  options : HaveOptions l.config l.queue.items;
  count : vec_len l.queue ≡ l.thread;
  room : l.config.threads ≤ vec_capacity l.queue;
}
