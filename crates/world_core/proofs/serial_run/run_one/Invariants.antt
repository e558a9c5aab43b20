use Rattle.world_core.specs.View.{world_of}
use Rattle.world_core.proofs.Serials.{left_over}
use Rattle.world_core.proofs.UnderWay.{IsUnderWay}
use Rattle.world_core.proofs.serial_run.run_one.Given as goal

abbrev pub invariant-events : goal.invariant-events
invariant-events l = IsUnderWay l.image l.config (world_of l.world) l.phase

abbrev pub decreases-events : goal.decreases-events
decreases-events l = left_over (world_of l.world) l.phase
