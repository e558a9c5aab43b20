use Rattle.std.proofs.Common.{◌≡◌, ◌≤◌, take, length, vec_len, vec_capacity}
use Rattle.world_core.specs.Happens.{world_after, answers_after}
use Rattle.world_core.specs.View.{world_of}
use Rattle.world_core.proofs.world.World.run_events.Given as goal

abbrev pub invariant-events : goal.invariant-events
invariant-events l = record {
  world : world_of l.self ≡ world_after (world_of l.initial.self) (take l.event-index l.events);
  answers : l.answers.items ≡ answers_after (world_of l.initial.self) (take l.event-index l.events);
  count : vec_len l.answers ≡ l.event-index;
  room : length l.events ≤ vec_capacity l.answers;
}
