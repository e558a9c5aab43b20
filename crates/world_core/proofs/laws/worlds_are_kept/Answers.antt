use Rattle.world_core.specs.World.{start_world}
use Rattle.world_core.proofs.Worlds.{event_kept, events_kept, start_kept}
use Rattle.world_core.proofs.laws.worlds_are_kept.Goals as goal

pub returns-clause-event : goal.returns-clause-event
returns-clause-event c = λ program w e h. event_kept program w h e

pub returns-clause-events : goal.returns-clause-events
returns-clause-events c = λ program config es. events_kept program (start_world program config) es (start_kept program config)
