-- A recorded run of one guest thread, and the states that it shows.
use Rattle.std.specs.Prelude.{◌≡◌, ◌≢◌, ℕ, ◌<◌, List}
use Rattle.sm_types.specs.declared.config.Config.{Config}
use Rattle.sm_types.specs.declared.shared_op.Event.{Event}
use Rattle.shared_region.specs.Ports.{ReplayEvents}
use Rattle.paged_memory.specs.Image.{Program}
use Rattle.kernel_contexts.specs.State.{State}
use Rattle.kernel_contexts.specs.Run.{Reached, reach}
use Rattle.lone_runner.specs.Parting.{state_at}
use Rattle.lone_runner.specs.Ticket.{whole_journal}

pub record Recording : Type 0 where
  pub program : Program
  pub config : Config
  -- the thread's number
  pub thread : ℕ
  -- the events that answer what it asks
  pub journal : List Event
  -- how many instructions are counted where the run ends
  pub last : ℕ

-- where the thread is after so many turns
abbrev pub reached_by : Recording → ℕ → Reached
reached_by r turns = reach r.program r.config r.thread r.journal turns

-- and how many instructions are counted there
abbrev pub counts_by : Recording → ℕ → ℕ
counts_by r turns = (state_at (reached_by r turns)).count

-- The run shows the state at a count: it is the state after the fewest turns by which so many instructions
-- are counted.
pub record Shows (r : Recording) (count : ℕ) (state : State) : Type 0 where
  pub turns : ℕ
  pub reached : state_at (reached_by r turns) ≡ state
  pub counts : state.count ≡ count
  pub first : (earlier : ℕ) → earlier < turns → counts_by r earlier ≢ count

-- the run over all events of a ticket
abbrev pub recorded : Program → Config → ℕ → ReplayEvents → ℕ → Recording
recorded program config thread ticket last = record {
  program = program;
  config = config;
  thread = thread;
  journal = whole_journal ticket;
  last = last;
}
