-- A thread on its way over a journal to a count of instructions.
use Rattle.std.specs.Prelude.{◌≡◌, ℕ, ◌<◌, ◌≤◌, ◌++◌, List, None}
use Rattle.sm_types.specs.declared.config.Config.{Config}
use Rattle.sm_types.specs.declared.shared_op.Event.{Event}
use Rattle.shared_region.specs.Ports.{ReplayEvents}
use Rattle.paged_memory.specs.Image.{Program}
use Rattle.kernel_contexts.specs.Run.{reach}
use Rattle.kernel_contexts.specs.Context.{state_of, journal_of}
use Rattle.kernel_contexts.specs.declared.context.Context.{Context}
use Rattle.lone_runner.specs.Parting.{parting_at, state_at}
use Rattle.lone_runner.specs.Replayed.{place_of}

-- after so many turns, at none of which it parted
pub record IsOnItsWay (program : Program) (config : Config) (thread : ℕ) (journal : List Event) (count : ℕ)
    (context : Context) (ticket : ReplayEvents)
    : Type 0 where
  pub turns : ℕ
  pub at : reach program config thread journal turns ≡ place_of context ticket None
  pub whole : journal ≡ journal_of context ++ ticket.ahead
  pub none : (m : ℕ) → m ≤ turns → parting_at count (reach program config thread journal m) ≡ None

-- it goes on, and before its last turn fewer were counted
pub record IsBefore (program : Program) (config : Config) (thread : ℕ) (journal : List Event) (count : ℕ)
    (context : Context) (ticket : ReplayEvents)
    : Type 0 where
  pub way : IsOnItsWay program config thread journal count context ticket
  pub below : (m : ℕ) → m < way.turns → (state_at (reach program config thread journal m)).count < count
  pub most : (state_of context).count ≤ count
