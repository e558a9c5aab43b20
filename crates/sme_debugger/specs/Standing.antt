-- Where a thread stands on its recorded run, and the states of the run that are kept.
use Rattle.std.specs.Prelude.{◌≡◌, ◌≢◌, ℕ, ◌<◌, ◌≤◌, List, All, length, drop, Option, Some, None}
use Rattle.sm_types.specs.declared.stop.Stop.{Stop}
use Rattle.shared_region.specs.Ports.{ReplayEvents}
use Rattle.kernel_contexts.specs.State.{State}
use Rattle.kernel_contexts.specs.Run.{At}
use Rattle.kernel_contexts.specs.Loose.{loose_state, loose_config, loose_thread, loose_events, loose_stop}
use Rattle.kernel_contexts.specs.declared.loose.Loose.{Loose}
use Rattle.lone_runner.specs.Ticket.{whole_journal}
use Rattle.kept_states.specs.Kept.{Keeps, kept_config, kept_thread, kept_count, kept_events}
use Rattle.kept_states.specs.declared.kept.KeptState.{KeptState}
use Rattle.sme_debugger.specs.Recording.{Recording, Shows, reached_by, counts_by}

-- the run is in the state, from which it goes on, after the fewest turns by which so many instructions are
-- counted, and so many of its events are used
pub record IsPlace (r : Recording) (count : ℕ) (s : State) (used : ℕ) : Type 0 where
  pub at : reached_by r s.turns ≡ At s used (drop used r.journal)
  pub counts : s.count ≡ count
  pub first : (earlier : ℕ) → earlier < s.turns → counts_by r earlier ≢ count

-- the state that is kept is one of the run
pub record IsOnRun (r : Recording) (k : KeptState) : Type 0 where
  pub config_is : kept_config k ≡ r.config
  pub thread_is : kept_thread k ≡ r.thread
  pub few : kept_events k ≤ length r.journal
  pub place : (s : State) → Keeps k s → IsPlace r (kept_count k) s (kept_events k)

-- so are all of some
abbrev pub AreOnRun : Recording → List KeptState → Type 0
AreOnRun r kept = All (IsOnRun r) kept

-- a thread and the ticket that answers it are those of the run
pub record IsOfRun (r : Recording) (loose : Loose) (ticket : ReplayEvents) : Type 0 where
  pub config_is : loose_config loose ≡ r.config
  pub thread_is : loose_thread loose ≡ r.thread
  pub number : ticket.thread ≡ r.thread

-- the thread is in the state that the run shows at a count; where it has not stopped, it goes on from there,
-- and the events ahead are those that are not used
pub record IsStanding (r : Recording) (count : ℕ) (loose : Loose) (stop : Option Stop) (ticket : ReplayEvents)
    : Type 0 where
  pub shows : Shows r count (loose_state loose)
  pub stop_is : loose_stop loose ≡ stop
  pub goes : stop ≡ None → IsPlace r count (loose_state loose) (loose_events loose)
  pub ahead : stop ≡ None → ticket.ahead ≡ drop (loose_events loose) r.journal

-- so it is at the count that it is known to show
abbrev pub IsShowing : Recording → Option ℕ → Loose → Option Stop → ReplayEvents → Type 0
IsShowing r shown loose stop ticket =
    (count : ℕ) → shown ≡ Some count → IsStanding r count loose stop ticket

-- ---- while states are kept

-- the states that are kept so far are of the run, and so is the thread, which goes on from where it stands
pub record IsKeeping (r : Recording) (later : List KeptState) (loose : Loose) (ticket : ReplayEvents) : Type 0
  where
    pub later_on_run : AreOnRun r later
    pub place : IsPlace r (loose_state loose).count (loose_state loose) (loose_events loose)
    pub ahead : ticket.ahead ≡ drop (loose_events loose) r.journal
    pub whole : whole_journal ticket ≡ r.journal
    pub of_run : IsOfRun r loose ticket
