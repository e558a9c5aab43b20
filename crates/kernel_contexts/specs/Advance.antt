-- What the calls that make turns promise, of one turn and of several: those of a guest thread, of a context
-- on its save area and on the bank of a core, and of a state that no run vouches for.
use Rattle.std.specs.Prelude.{◌≡◌, ◌+◌, ◌*◌, ◌≤◌, ◌++◌, ◌&&◌, ℕ, Bool, false, true, not, List, length, None}
use Rattle.sm_types.specs.declared.shared_op.Event.{Event}
use Rattle.shared_region.specs.Tickets.{Refusals}
use Rattle.paged_memory.specs.PageTable.{KeepsOwned}
use Rattle.mem_access.specs.declared.bank.Bank.{Bank}
use Rattle.machine_step.specs.Machine.{IsSameBank}
use Rattle.machine_step.specs.Several.{HaltsBy}
use Rattle.machine_step.specs.declared.several.Made.{Made}
use Rattle.kernel_contexts.specs.Context.{thread_of, journal_of, is_home, held_state, guest_made, made_by}
use Rattle.kernel_contexts.specs.Context.{owns, needs_bank_on, GoesOrAsks, HasFreePlace}
use Rattle.kernel_contexts.specs.Context.{IsSameGuest, IsSameThread, IsOn}
use Rattle.kernel_contexts.specs.Loose.{loose_events, loose_made, stance_in, IsSameLoose}
use Rattle.kernel_contexts.specs.Needs.{needs_vectors}
use Rattle.kernel_contexts.specs.Owned.{TurnOwns, turn_writes}
use Rattle.kernel_contexts.specs.SaveArea.{ComesBack}
use Rattle.kernel_contexts.specs.Several.{GoesApart}
use Rattle.kernel_contexts.specs.Stance.{Stance, stance_at, stance_of, stance_on, turn_from, TurnsFrom}
use Rattle.kernel_contexts.specs.Wanting.{TurnWants}
use Rattle.kernel_contexts.specs.declared.context.Context.{Context}
use Rattle.kernel_contexts.specs.declared.context.Turn.{Turn}
use Rattle.kernel_contexts.specs.declared.context.Turn.TheVariants.{Ran, Yielded, Memory}
use Rattle.kernel_contexts.specs.declared.guest.GuestThread.{GuestThread}
use Rattle.kernel_contexts.specs.declared.loose.Loose.{Loose}

-- one turn of a thread that may be kept off its vectors, over a port that refuses so, which gave the events:
-- these come to its journal, this stays the same, its vectors are here then, and it has made so many turns at
-- most for each instruction of its budget
pub record MakesTurn (kept : Bool) (refusals : Refusals) (given : List Event → Type 0)
    (Grows Same Home : Type 0) (most : ℕ) (old new : Stance) (end : Turn) : Type 0 where
  pub turn : TurnsFrom old.thread.stop kept refusals old new end
  pub memory : end ≡ Memory → TurnWants (HasFreePlace old.thread) refusals.takes_memory old.thread old.bank
  pub goes : end ≡ Memory → HasFreePlace old.thread → GoesOrAsks refusals.takes_memory (turn_from old)
  pub owned : TurnOwns (turn_writes old.thread old.bank) old.thread.machine.pages new.thread.machine.pages end
  pub grows : Grows
  pub gives : given (guest_made old.thread new.thread)
  pub same : Same
  pub home : Home
  pub made : end ≡ Ran → new.state.turns ≡ old.state.turns + 1
  pub yielded : end ≡ Yielded → new.state.turns ≡ old.state.turns + 1
  pub budget : new.state.count ≤ new.thread.config.budget
  pub few : new.state.turns ≤ most * new.thread.config.budget

-- so many turns, at most so many, each an instruction that is counted and asks nothing, and none that it was
-- told to halt before; of a thread that is kept off its vectors none reads or writes them. It ended where it
-- was told to halt: where a word is given, that stands at PC, and it was told to halt before it; where none
-- is and fewer were made than might be, the next one is none to halt before
pub record MakesSeveral (halts : ℕ → ℕ → Bool) (apart : Bool) (most : ℕ) (Same Home : Type 0)
    (old new : Stance) (end : Made) : Type 0 where
  pub turns :
      GoesApart halts apart old.thread.config old.thread.number old.events end.count old.state new.state
  pub few : end.count ≤ most
  pub halted : HaltsBy halts new.state.core.memory new.state.core.scalars.pc most end
  pub owned : KeepsOwned old.thread.machine.pages new.thread.machine.pages
  pub count : new.state.count ≡ old.state.count + end.count
  pub made : new.state.turns ≡ old.state.turns + end.count
  pub stop : new.thread.stop ≡ None
  pub journal : new.thread.journal.items ≡ old.thread.journal.items
  pub events : new.events ≡ old.events
  pub same : Same
  pub home : Home

-- a context is on this bank then, which is the one of before, and as it was where the thread does not own it
pub record StaysOn (old : Context) (before : Bank) (new : Context) (after : Bank) : Type 0 where
  pub on : IsOn new after
  pub bank : IsSameBank before after
  pub apart : owns before (thread_of old) ≡ false → after ≡ before

-- a turn of a guest thread on a bank that has its vectors
abbrev pub AdvancesGuest :
    Bool → Refusals → (List Event → Type 0) → GuestThread → Bank → GuestThread → Bank → Turn → Type 0
AdvancesGuest apart refusals given old before new after end =
    MakesTurn (apart && needs_vectors old.config (held_state old before)) refusals given
    (new.journal.items ≡ old.journal.items ++ guest_made old new) (IsSameGuest old new)
    (ComesBack new.config new.machine before after) 128 (stance_at old before) (stance_at new after) end

-- of a context on its save area
abbrev pub Advances : Refusals → (List Event → Type 0) → Context → Context → Turn → Type 0
Advances refusals given old new end =
    MakesTurn false refusals given (journal_of new ≡ journal_of old ++ made_by old new) (IsSameThread old new)
    (is_home new ≡ true) 64 (stance_of old) (stance_of new) end

abbrev pub AdvancesSeveral : (ℕ → ℕ → Bool) → ℕ → Context → Context → Made → Type 0
AdvancesSeveral halts most old new end =
    MakesSeveral halts false most (IsSameThread old new) (is_home new ≡ true) (stance_of old) (stance_of new)
    end

-- on a bank, which the thread owns or not
abbrev pub AdvancesOn : Refusals → (List Event → Type 0) → Context → Bank → Context → Bank → Turn → Type 0
AdvancesOn refusals given old before new after end =
    MakesTurn (needs_bank_on old before) refusals given (journal_of new ≡ journal_of old ++ made_by old new)
    (IsSameThread old new) (StaysOn old before new after) 64 (stance_on before old) (stance_on after new) end

abbrev pub AdvancesSeveralOn : (ℕ → ℕ → Bool) → ℕ → Context → Bank → Context → Bank → Made → Type 0
AdvancesSeveralOn halts most old before new after end =
    MakesSeveral halts (not (owns before (thread_of old))) most (IsSameThread old new)
    (StaysOn old before new after) (stance_on before old) (stance_on after new) end

-- and of a state that no run vouches for
abbrev pub AdvancesLoose : Refusals → (List Event → Type 0) → Loose → Loose → Turn → Type 0
AdvancesLoose refusals given old new end =
    MakesTurn false refusals given (loose_events new ≡ loose_events old + length (loose_made old new))
    (IsSameLoose old new) (Unit {0}) 128 (stance_in old) (stance_in new) end

abbrev pub AdvancesSeveralLoose : (ℕ → ℕ → Bool) → ℕ → Loose → Loose → Made → Type 0
AdvancesSeveralLoose halts most old new end =
    MakesSeveral halts false most (IsSameLoose old new) (Unit {0}) (stance_in old) (stance_in new) end
