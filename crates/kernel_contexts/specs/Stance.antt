-- A guest thread as it stands before a turn or after one, wherever its vectors are, and its turn.
use Rattle.std.specs.Prelude.{◌≡◌, ℕ, Bool, false, Option, Some, None, length}
use Rattle.sm_types.specs.declared.stop.Stop.{Stop}
use Rattle.shared_region.specs.Tickets.{Refusals}
use Rattle.mem_access.specs.declared.bank.Bank.{Bank}
use Rattle.kernel_contexts.specs.State.{State}
use Rattle.kernel_contexts.specs.Call.{TurnEnd}
use Rattle.kernel_contexts.specs.Turn.{turn_of}
use Rattle.kernel_contexts.specs.Context.{held_state, guest_events, guest_made, save_area_of, bank_with}
use Rattle.kernel_contexts.specs.Context.{state_of, state_on, journal_of, needs_bank_on, TurnsUnless}
use Rattle.kernel_contexts.specs.declared.guest.GuestThread.{GuestThread}
use Rattle.kernel_contexts.specs.declared.context.Context.{Context}
use Rattle.kernel_contexts.specs.declared.context.Turn.{Turn}
use Rattle.kernel_contexts.specs.declared.context.Turn.TheVariants.{Stopped}

-- the thread as the kernel keeps it, the bank that has its vectors, its plain state, and its events so far
pub record Stance : Type 0 where
  pub thread : GuestThread
  pub bank : Bank
  pub state : State
  pub events : ℕ

-- that of a guest thread on a bank
abbrev pub stance_at : GuestThread → Bank → Stance
stance_at g bank = record { thread = g; bank = bank; state = held_state g bank; events = guest_events g }

-- of a context on its save area
abbrev pub stance_of : Context → Stance
stance_of c =
    record { thread = c.guest; bank = save_area_of c; state = state_of c; events = length (journal_of c) }

-- and of a context on the bank of a core
abbrev pub stance_on : Bank → Context → Stance
stance_on bank c = record {
  thread = c.guest;
  bank = bank_with c bank;
  state = state_on c bank;
  events = length (journal_of c);
}

-- its turn
abbrev pub turn_from : Stance → TurnEnd
turn_from s = turn_of s.thread.config s.thread.number s.events s.state

-- one that is not stopped makes a turn, or tells that the turn needs vectors off which it is kept; one that
-- is stopped answers its stop and stays as it is
abbrev pub TurnsFrom : Option Stop → Bool → Refusals → Stance → Stance → Turn → Type 0
TurnsFrom None kept refusals old new turn =
    TurnsUnless kept refusals (turn_from old) old.state new.state (guest_made old.thread new.thread)
    new.thread.stop turn
TurnsFrom (Some stop) kept refusals old new turn =
    (turn ≡ Stopped stop) × (new.state ≡ old.state) × (new.thread.journal.items ≡ old.thread.journal.items)
    × (new.thread.stop ≡ Some stop)

-- a context makes a turn on its save area
abbrev pub TurnsOrStays : Option Stop → Refusals → Context → Context → Turn → Type 0
TurnsOrStays stop refusals old new turn = TurnsFrom stop false refusals (stance_of old) (stance_of new) turn

-- and on the bank of a core
abbrev pub TurnsOn : Option Stop → Refusals → Context → Bank → Context → Bank → Turn → Type 0
TurnsOn stop refusals old before new after turn =
    TurnsFrom stop (needs_bank_on old before) refusals (stance_on before old) (stance_on after new) turn
