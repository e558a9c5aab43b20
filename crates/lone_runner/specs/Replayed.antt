-- A context and the ticket whose journal answers it, as the code goes through its turns.
use Rattle.std.specs.Prelude.{◌≡◌, true, ◌+◌, ◌<◌, ◌^◌, ◌++◌, [], length, Option, None}
use Rattle.sm_types.specs.declared.stop.Stop.{Stop}
use Rattle.shared_region.specs.Ports.{ReplayEvents}
use Rattle.kernel_contexts.specs.State.{start_state}
use Rattle.kernel_contexts.specs.Run.{Reached, Strays, turned}
use Rattle.kernel_contexts.specs.Context.{state_of, config_of, image_of, thread_of, stop_of, journal_of, is_home}
use Rattle.kernel_contexts.specs.Context.{save_area_of, IsSameThread, MayWantMemory}
use Rattle.kernel_contexts.specs.declared.context.Context.{Context}
use Rattle.kernel_contexts.specs.Standing.{standing}
use Rattle.lone_runner.specs.Parting.{unanswered}
use Rattle.lone_runner.specs.declared.fault.AloneFault.{AloneFault}

-- the context is home, the ticket is that of its thread, and the events that it answered are the context's;
-- the journal has fewer than 2^32
pub record HasTicket (context : Context) (ticket : ReplayEvents) : Type 0 where
  pub home : is_home context ≡ true
  pub number : ticket.thread ≡ thread_of context
  pub events : ticket.answered ≡ journal_of context
  pub fits : length (journal_of context) + length ticket.ahead < 2 ^ 32

-- the thread has made no turn
pub record IsAtStart (context : Context) (ticket : ReplayEvents) : Type 0 where
  pub held : HasTicket context ticket
  pub state : state_of context ≡ start_state (image_of context) (config_of context) (thread_of context)
  pub runs : stop_of context ≡ None
  pub journal : journal_of context ≡ []

-- the place that they have reached
abbrev pub place_of : Context → ReplayEvents → Option Stop → Reached
place_of context ticket stop = standing (state_of context) stop (length (journal_of context)) ticket.ahead

-- the next one, of a thread that goes on
abbrev pub next_place : Context → ReplayEvents → Reached
next_place context ticket = turned (config_of context) (thread_of context) (place_of context ticket None)

-- memory may be wanting for a turn on the way of a context over its journal and the events ahead of its
-- ticket: that of a context of the same thread, options and image that has not stopped and has made the first
-- of these events
pub record WantsOnTheWay (context : Context) (ticket : ReplayEvents) : Type 0 where
  pub now : Context
  pub its : ReplayEvents
  pub same : IsSameThread context now
  pub runs : stop_of now ≡ None
  pub held : HasTicket now its
  pub journal : journal_of context ++ ticket.ahead ≡ journal_of now ++ its.ahead
  pub wants : MayWantMemory ⊥ now (save_area_of now)

-- the turn asks an operation that no event answers
pub record IsAstray (context : Context) (ticket : ReplayEvents) (fault : AloneFault) : Type 0 where
  pub strays : next_place context ticket
      ≡ Strays (state_of context) (length (journal_of context)) ticket.ahead
  pub told : fault ≡ unanswered (state_of context) (length (journal_of context)) ticket.ahead
