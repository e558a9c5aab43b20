-- The rest of a thread's run: from a state, over the events that are left of its journal.
use Rattle.std.specs.Prelude.{◌≡◌, ℕ, ◌<◌, ◌≤◌, List, [], Some, None}
use Rattle.sm_types.specs.declared.config.Config.{Config}
use Rattle.sm_types.specs.declared.shared_op.Event.{Event}
use Rattle.sm_types.specs.declared.stop.Stop.{Stop}
use Rattle.paged_memory.specs.Image.{Program}
use Rattle.kernel_contexts.specs.State.{State}
use Rattle.kernel_contexts.specs.Run.{Ended, reach_from}
use Rattle.lone_runner.specs.LoneRun.{IsLoneRun}
use Rattle.lone_runner.specs.Parting.{IsParting, parting_at}
use Rattle.lone_runner.specs.declared.fault.AloneFault.{AloneFault}

-- from this state, with so many events before it, the turns of the thread over these events end in that
-- state with that stop, and exactly these events are used
pub record IsRestOfRun (config : Config) (thread : ℕ) (from : State) (done : ℕ) (events : List Event)
    (state : State) (stop : Stop)
    : Type 0 where
  pub turns : ℕ
  pub used : ℕ
  pub ends : reach_from config thread from done events turns ≡ Ended state stop used []

-- they part so from these events and from the count, and not before
pub record IsPartingFrom (config : Config) (thread : ℕ) (from : State) (done : ℕ) (events : List Event)
    (count : ℕ) (fault : AloneFault)
    : Type 0 where
  pub turns : ℕ
  pub parts : parting_at count (reach_from config thread from done events turns) ≡ Some fault
  pub first : (earlier : ℕ)
      → earlier < turns → parting_at count (reach_from config thread from done events earlier) ≡ None

-- they end when so many instructions are counted
pub record EndsFrom (config : Config) (thread : ℕ) (from : State) (done : ℕ) (events : List Event)
    (count : ℕ)
    : Type 0 where
  pub state : State
  pub stop : Stop
  pub run : IsRestOfRun config thread from done events state stop
  pub counts : state.count ≡ count

-- from a place of the whole run at which the thread goes on, both come to the same: they end alike, and they
-- part alike from each count that is not below that of the place
pub record RestIsRest (program : Program) (config : Config) (thread : ℕ) (journal : List Event) (turns : ℕ)
    (from : State) (done : ℕ) (left : List Event)
    : Type 0 where
  pub ends : (state : State) (stop : Stop) → IsLoneRun program config thread journal state stop
      → IsRestOfRun config thread from done left state stop
  pub whole : (state : State) (stop : Stop) → IsRestOfRun config thread from done left state stop
      → IsLoneRun program config thread journal state stop
  pub parts : (count : ℕ) (fault : AloneFault) → from.count ≤ count
      → IsParting program config thread journal count fault
      → IsPartingFrom config thread from done left count fault
  pub parted : (count : ℕ) (fault : AloneFault) → from.count ≤ count
      → IsPartingFrom config thread from done left count fault
      → IsParting program config thread journal count fault
