-- A run that is made in two parts.
use Rattle.std.specs.Prelude.{◌↔◌, ℕ, List, drop}
use Rattle.sm_types.specs.declared.config.Config.{Config}
use Rattle.sm_types.specs.declared.shared_op.Event.{Event}
use Rattle.sm_types.specs.declared.stop.Stop.{Stop}
use Rattle.paged_memory.specs.Image.{Program}
use Rattle.kernel_contexts.specs.State.{State}
use Rattle.lone_runner.specs.LoneRun.{IsLoneRun}
use Rattle.lone_runner.specs.Parting.{IsParting}
use Rattle.lone_runner.specs.Rest.{EndsFrom, IsPartingFrom, IsRestOfRun}
use Rattle.lone_runner.specs.declared.fault.AloneFault.{AloneFault}

-- from a state, over the events of a journal that come after so many, the rest of a run comes to what the
-- whole run comes to at a count: it ends there exactly where the whole run does not part; each end of the one
-- is an end of the other; and so is each way of parting
pub record ComesToTheRun (program : Program) (config : Config) (thread : ℕ) (journal : List Event)
    (from : State) (used count : ℕ)
    : Type 0 where
  pub ends : EndsFrom config thread from used (drop used journal) count
      ↔ ((fault : AloneFault) → ¬ IsParting program config thread journal count fault)
  pub same : (state : State) (stop : Stop)
      → IsRestOfRun config thread from used (drop used journal) state stop
      ↔ IsLoneRun program config thread journal state stop
  pub parts : (fault : AloneFault) → IsPartingFrom config thread from used (drop used journal) count fault
      ↔ IsParting program config thread journal count fault
