-- What a loose state is, and what its turns are: those of a thread's state that no run vouches for.
use Rattle.std.specs.Prelude.{◌≡◌, false, ℕ, List, Option}
use Rattle.sm_types.specs.declared.config.Config.{Config}
use Rattle.sm_types.specs.declared.shared_op.Event.{Event}
use Rattle.sm_types.specs.declared.stop.Stop.{Stop}
use Rattle.shared_region.specs.Tickets.{Refusals}
use Rattle.mem_access.specs.declared.bank.Bank.{Bank}
use Rattle.machine_step.specs.declared.machine.Machine.{Machine}
use Rattle.kernel_contexts.specs.State.{State}
use Rattle.kernel_contexts.specs.Call.{TurnEnd}
use Rattle.kernel_contexts.specs.Turn.{turn_of}
use Rattle.kernel_contexts.specs.GuestThread.{held_state, guest_events}
use Rattle.kernel_contexts.specs.Context.{guest_made}
use Rattle.kernel_contexts.specs.Stance.{Stance, stance_at, TurnsFrom}
use Rattle.kernel_contexts.specs.declared.loose.Loose.{Loose}
use Rattle.kernel_contexts.specs.declared.context.Turn.{Turn}

-- its vectors and ZA
abbrev pub loose_bank : Loose → Bank
loose_bank l = l.bank

-- its registers and pages
abbrev pub loose_machine : Loose → Machine
loose_machine l = l.guest.machine

-- the plain state that it stands for
abbrev pub loose_state : Loose → State
loose_state l = held_state l.guest (loose_bank l)

-- its options
abbrev pub loose_config : Loose → Config
loose_config l = l.guest.config

-- the thread's number
abbrev pub loose_thread : Loose → ℕ
loose_thread l = l.guest.number

-- the events so far, from the start of the thread's journal
abbrev pub loose_events : Loose → ℕ
loose_events l = guest_events l.guest

-- why it stopped, if it has
abbrev pub loose_stop : Loose → Option Stop
loose_stop l = l.guest.stop

-- the events that it made
abbrev pub loose_made : Loose → Loose → List Event
loose_made old new = guest_made old.guest new.guest

-- its turn
abbrev pub loose_turn : Loose → TurnEnd
loose_turn l = turn_of (loose_config l) (loose_thread l) (loose_events l) (loose_state l)

-- how it stands
abbrev pub stance_in : Loose → Stance
stance_in l = stance_at l.guest l.bank

-- it makes a turn
abbrev pub LooseTurns : Option Stop → Refusals → Loose → Loose → Turn → Type 0
LooseTurns stop refusals old new turn = TurnsFrom stop false refusals (stance_in old) (stance_in new) turn

-- the options and the thread are those of before
pub record IsSameLoose (old new : Loose) : Type 0 where
  pub config : loose_config new ≡ loose_config old
  pub thread : loose_thread new ≡ loose_thread old
