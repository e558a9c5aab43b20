-- The contexts of a worker, each with its ticket, as the queue has them: those in its core, and those that
-- have left it.
use Rattle.std.specs.Prelude.{◌≡◌, ◌≢◌, ℕ, ◌+◌, ◌≤◌, List, All, map, Option, Some, None}
use Rattle.sm_types.specs.declared.config.Config.{Config}
use Rattle.shared_region.specs.Tickets.{TicketView}
use Rattle.kernel_contexts.specs.declared.whole.Whole.{Whole}
use Rattle.core_unit.specs.CoreState.{CoreState}
use Rattle.core_unit.specs.Held.{Held}
use Rattle.run_queue.specs.declared.origin.Origin.{Origin}
use Rattle.run_queue.specs.declared.view.PassView.{PassView}
use Rattle.run_queue.specs.Ticketed.{Ticketed, ticketed, origin_from}
use Rattle.thread_lists.specs.Counts.{occurrences, once_below}
use Rattle.run_queue.specs.Passes.{known_threads}
use Rattle.run_queue.specs.Rule.{threads_in, AreOf}

-- ---- what the queue sees of a core, by what its tickets tell

module _ {T : Type 0} (tells : T → TicketView) where
  -- a thread that a core has
  abbrev pub ticketed_held : Held T → Ticketed
  ticketed_held h = record {
    thread = h.guest.number;
    origin = origin_from h.guest.program h.guest.config (tells h.ticket).name;
    stop = h.guest.stop;
  }

  -- the residents
  abbrev pub residents_in : CoreState T → List Ticketed
  residents_in c = map ticketed_held c.residents

  -- the threads in the core that have stopped
  abbrev pub stopped_in : CoreState T → List Ticketed
  stopped_in c = map ticketed_held c.done

  -- contexts outside of cores
  abbrev pub contexts_in : {P : Type 0} {b : _} → List (Whole P T b) → List Ticketed
  contexts_in ws = map (λ w. ticketed w.context (tells w.ticket)) ws

-- a call has left the number and the options of a core
pub record IsSameCore {T : Type 0} (old new : CoreState T) : Type 0 where
  pub number : new.number ≡ old.number
  pub config : new.config ≡ old.config

-- ---- what a worker has, and what its pass knows

-- the context has stopped
abbrev pub HasStopped : Ticketed → Type 0
HasStopped x = x.stop ≢ None

-- a context after turns is of the same thread, and from the same start
pub record IsSameTicketed (old new : Ticketed) : Type 0 where
  pub thread : new.thread ≡ old.thread
  pub origin : new.origin ≡ old.origin

-- The contexts of a worker: the residents of its core, those in the core that have stopped, and those that it
-- has collected. Their threads are those that its pass holds, each once, and are threads of the options; all
-- are from the start that the pass knows.
pub record Holds (v : PassView) (residents stopped done : List Ticketed) : Type 0 where
  pub sums : (t : ℕ)
      → occurrences t (threads_in residents) + occurrences t (threads_in stopped)
      + occurrences t (threads_in done) ≡ occurrences t v.held
  pub most : (t : ℕ) → occurrences t v.held ≤ once_below t (known_threads v.origin)
  pub residents_of : AreOf v.origin residents
  pub stopped_of : AreOf v.origin stopped
  pub done_of : AreOf v.origin done
  pub stopped_ended : All HasStopped stopped
  pub done_ended : All HasStopped done

-- the same of a core and of the contexts that were collected
abbrev pub HoldsWith : {T : Type 0} → (T → TicketView) → PassView → CoreState T → List Ticketed → Type 0
HoldsWith tells v c done = Holds v (residents_in tells c) (stopped_in tells c) done

-- These are all contexts that a pass holds, each of a thread that it holds: they are from the start that it
-- knows, and have stopped.
pub record HasEnded (v : PassView) (all : List Ticketed) : Type 0 where
  pub sums : (t : ℕ) → occurrences t (threads_in all) ≡ occurrences t v.held
  pub all_of : AreOf v.origin all
  pub ended : All HasStopped all

-- the start has these options and this name of a port
abbrev pub IsOf : Option Origin → Config → List ℕ → Type 0
IsOf None config name = ⊥
IsOf (Some origin) config name = (origin.config ≡ config) × (origin.name ≡ name)

-- it is the same pass, which may hold other threads
pub record IsSameHolder (old new : PassView) : Type 0 where
  pub role : new.role ≡ old.role
  pub origin : new.origin ≡ old.origin
