-- What a ticket tells, why a port refuses an operation, and what it makes of port and ticket when it gives
-- events.
use Rattle.std.specs.Prelude.{◌≡◌, ℕ, List, ◌++◌, Option, Some}
use Rattle.sm_types.specs.declared.shared_op.SharedOp.{SharedOp}
use Rattle.sm_types.specs.declared.shared_op.Event.{Event}
use Rattle.sm_types.specs.declared.shared_words.Entry.{Entry}
use Rattle.shared_region.specs.declared.port.PortStop.{PortStop}
use Rattle.shared_region.specs.declared.port.PortStop.TheVariants.{TraceEnds, TraceDiffers, Memory}
use Rattle.shared_region.specs.History.{entries_of}
use Rattle.shared_region.specs.Chain.{Chain}

-- the number of a ticket's thread, where it is a thread's, the events that it was given, the oldest first,
-- and the name of its port
pub record TicketView : Type 0 where
  pub number : Option ℕ
  pub events : List Event
  pub name : List ℕ

-- the ticket of a thread and of the port of that name
pub record IsTicketOf (thread : ℕ) (port : List ℕ) (ticket : TicketView) : Type 0 where
  pub number : ticket.number ≡ Some thread
  pub belongs : ticket.name ≡ port

-- the ticket that was given these events besides
abbrev pub with_events : TicketView → List Event → TicketView
with_events ticket events = record ticket { events = ticket.events ++ events }

-- why a port, as it stands with a ticket, refuses an operation: its journal has no event left, the next event
-- has another operation, or memory may be wanting
pub record Refusals : Type 1 where
  pub ends : SharedOp → Type 0
  pub strays : SharedOp → Type 0
  pub takes_memory : Type 0

-- the cause of each refusal
abbrev pub IsCause : Refusals → SharedOp → PortStop → Type 0
IsCause refusals op TraceEnds = refusals.ends op
IsCause refusals op TraceDiffers = refusals.strays op
IsCause refusals op Memory = refusals.takes_memory

-- the operation is not refused, but for want of memory
abbrev pub IsAllowed : Refusals → SharedOp → Type 0
IsAllowed refusals op = (¬ refusals.ends op) × (¬ refusals.strays op)

-- a port gave a thread's ticket these events, one after the other: port and ticket before and after are
-- joined by one link for each, the ticket tells them after those that it told, and the names stay
module _ {P T : Type 0} (gives : P → T → Entry → P → T → Type 0) (name : P → List ℕ)
    (tells : T → TicketView) where
  pub record GivesEvents (thread : ℕ) (events : List Event) (p : P) (t : T) (q : P) (u : T) : Type 0 where
    pub chain : Chain gives p t (entries_of thread events) q u
    pub same : name q ≡ name p
    pub ticket : tells u ≡ with_events (tells t) events
