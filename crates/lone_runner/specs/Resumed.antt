-- A thread in a state that no run vouches for, and the ticket whose events answer it, as the code goes
-- through its turns.
use Rattle.std.specs.Prelude.{◌≡◌, ℕ, ◌≤◌, ◌<◌, ◌^◌, List, length, Option, None}
use Rattle.sm_types.specs.declared.shared_op.Event.{Event}
use Rattle.sm_types.specs.declared.stop.Stop.{Stop}
use Rattle.shared_region.specs.Ports.{ReplayEvents}
use Rattle.kernel_contexts.specs.Run.{Reached, Strays, turned, reach_from}
use Rattle.kernel_contexts.specs.Standing.{standing}
use Rattle.kernel_contexts.specs.Loose.{loose_state, loose_config, loose_thread, loose_events, loose_stop}
use Rattle.kernel_contexts.specs.declared.loose.Loose.{Loose}
use Rattle.lone_runner.specs.Parting.{unanswered, parting_at, state_at}
use Rattle.lone_runner.specs.Rest.{IsRestOfRun, IsPartingFrom}
use Rattle.lone_runner.specs.declared.fault.AloneFault.{AloneFault}

-- the ticket is that of its thread, and fewer than 2^32 events are ahead
pub record HasLooseTicket (loose : Loose) (ticket : ReplayEvents) : Type 0 where
  pub number : ticket.thread ≡ loose_thread loose
  pub fits : length ticket.ahead < 2 ^ 32

-- the thread goes on, from a state that has not passed the count
pub record IsToResume (loose : Loose) (ticket : ReplayEvents) (count : ℕ) : Type 0 where
  pub held : HasLooseTicket loose ticket
  pub runs : loose_stop loose ≡ None
  pub most : (loose_state loose).count ≤ count

-- the place that they have reached
abbrev pub loose_place : Loose → ReplayEvents → Option Stop → Reached
loose_place loose ticket stop = standing (loose_state loose) stop (loose_events loose) ticket.ahead

-- the next one, of a thread that goes on
abbrev pub loose_next : Loose → ReplayEvents → Reached
loose_next loose ticket = turned (loose_config loose) (loose_thread loose) (loose_place loose ticket None)

-- the turn asks an operation that no event answers
pub record IsLooseAstray (loose : Loose) (ticket : ReplayEvents) (fault : AloneFault) : Type 0 where
  pub strays : loose_next loose ticket ≡ Strays (loose_state loose) (loose_events loose) ticket.ahead
  pub told : fault ≡ unanswered (loose_state loose) (loose_events loose) ticket.ahead

-- where the thread is so many turns after its state, over these events
abbrev pub resumed_at : Loose → List Event → ℕ → Reached
resumed_at from events turns =
    reach_from (loose_config from) (loose_thread from) (loose_state from) (loose_events from) events turns

-- the thread of another is on the way from that one over these events, after so many turns, at none of which
-- it parted
pub record IsResuming (from : Loose) (events : List Event) (count : ℕ) (loose : Loose) (ticket : ReplayEvents)
    : Type 0 where
  pub turns : ℕ
  pub at : resumed_at from events turns ≡ loose_place loose ticket None
  pub none : (m : ℕ) → m ≤ turns → parting_at count (resumed_at from events m) ≡ None

-- it came to its end over exactly these events, with this stop, when so many instructions were counted
pub record IsResumed (from : Loose) (events : List Event) (count : ℕ) (loose : Loose) (stop : Stop)
    : Type 0 where
  pub run : IsRestOfRun (loose_config from) (loose_thread from) (loose_state from) (loose_events from) events
      (loose_state loose) stop
  pub counts : (loose_state loose).count ≡ count

-- ---- to a count of instructions

-- the thread of another is on the way from that one over these events, and before its last turn fewer than so
-- many instructions were counted
pub record IsComing (from : Loose) (events : List Event) (count : ℕ) (loose : Loose) (ticket : ReplayEvents)
    : Type 0 where
  pub way : IsResuming from events count loose ticket
  pub below : (m : ℕ) → m < way.turns → (state_at (resumed_at from events m)).count < count
  pub most : (loose_state loose).count ≤ count

-- it came to the place at which so many are counted, after the fewest turns, at none of which it parted; where
-- the last of them ended its run, it has this stop
pub record IsReached (from : Loose) (events : List Event) (count : ℕ) (loose : Loose) (stop : Option Stop)
    (ticket : ReplayEvents)
    : Type 0 where
  pub turns : ℕ
  pub at : resumed_at from events turns ≡ loose_place loose ticket stop
  pub counts : (loose_state loose).count ≡ count
  pub below : (m : ℕ) → m < turns → (state_at (resumed_at from events m)).count < count
  pub none : (m : ℕ) → m < turns → parting_at count (resumed_at from events m) ≡ None

-- it parts so from these events and from each count that is not below this one
abbrev pub IsPartingFromAll : Loose → List Event → ℕ → AloneFault → Type 0
IsPartingFromAll from events count fault =
    (last : ℕ) → count ≤ last → IsPartingFrom (loose_config from) (loose_thread from) (loose_state from)
    (loose_events from) events last fault
