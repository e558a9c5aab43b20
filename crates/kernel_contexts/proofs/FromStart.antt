-- A thread that began at its start has all its events in its journal, and its count explains its turns.
use Rattle.std.proofs.Common.{◌≡◌, ℕ, ◌*◌, ◌≤◌, ◌++◌, Bool, List, length, ◌∙◌, subst, arith}
use Rattle.sm_types.specs.declared.shared_op.Event.{Event}
use Rattle.shared_region.specs.Tickets.{Refusals}
use Rattle.mem_access.specs.declared.bank.Bank.{Bank}
use Rattle.kernel_contexts.specs.State.{State}
use Rattle.kernel_contexts.specs.GuestThread.{guest_events, IsFromStart}
use Rattle.kernel_contexts.specs.Several.{GoesApart}
use Rattle.kernel_contexts.specs.Context.{held_state, IsSameGuest}
use Rattle.kernel_contexts.specs.Stance.{Stance, stance_at, TurnsFrom}
use Rattle.kernel_contexts.specs.Advance.{MakesTurn}
use Rattle.kernel_contexts.specs.declared.guest.GuestThread.{GuestThread}
use Rattle.kernel_contexts.specs.declared.context.Turn.{Turn}

pub all_events : (g : GuestThread) → IsFromStart g → guest_events g ≡ length g.journal.items
all_events g h = omega (arith, h.earlier)

-- one that comes from it began there too
pub still_from_start : (old new : GuestThread) → IsFromStart old → new.earlier ≡ old.earlier → new.begun ≡ old.begun → IsFromStart new
still_from_start old new h earlier begun = record { earlier = earlier ∙ h.earlier; begun = begun ∙ h.begun }

-- its turns are explained
few_from_start : (g : GuestThread) → IsFromStart g → g.turns ≤ 64 * g.config.budget
few_from_start g h = omega (arith, g.turns_within, h.begun)

pub several_from_start : (g : GuestThread) → IsFromStart g → (halts : ℕ → ℕ → Bool) (apart : Bool) (n : ℕ) (old new : State)
    → GoesApart halts apart g.config g.number (guest_events g) n old new
    → GoesApart halts apart g.config g.number (length g.journal.items) n old new
several_from_start g start halts apart n old new h =
    subst (λ (e : ℕ). GoesApart halts apart g.config g.number e n old new) (all_events g start) h

-- how it stands, by the length of its journal
abbrev pub begun_at : GuestThread → Bank → Stance
begun_at g bank = record { thread = g; bank = bank; state = held_state g bank; events = length g.journal.items }

stands_so : (g : GuestThread) → IsFromStart g → (bank : Bank) → stance_at g bank ≡ begun_at g bank
stands_so g start bank = λ i. record { thread = g; bank = bank; state = held_state g bank; events = all_events g start i }

-- its turn, with what is said besides
module _ (kept : Bool) (refusals : Refusals) (given : List Event → Type 0) (grows back : Type 0) (old new : GuestThread) (before after : Bank)
    (end : Turn) (start : IsFromStart old)
    (e : MakesTurn kept refusals given grows (IsSameGuest old new) back 128 (stance_at old before) (stance_at new after) end) where
  later : IsFromStart new
  later = still_from_start old new start e.same.earlier e.same.begun

  so : MakesTurn kept refusals given grows (IsSameGuest old new) back 128 (begun_at old before) (begun_at new after) end
  so =
      subst (λ (s : Stance). MakesTurn kept refusals given grows (IsSameGuest old new) back 128 s (begun_at new after) end)
      (stands_so old start before)
      (subst (λ (s : Stance). MakesTurn kept refusals given grows (IsSameGuest old new) back 128 (stance_at old before) s end)
      (stands_so new later after) e)

  pub turn_begun : {same home : Type 0} → same → home
      → MakesTurn kept refusals given grows same home 64 (begun_at old before) (begun_at new after) end
  turn_begun same home = record {
    turn = so.turn;
    memory = e.memory;
    goes = so.goes;
    owned = e.owned;
    grows = e.grows;
    gives = e.gives;
    same = same;
    home = home;
    made = e.made;
    yielded = e.yielded;
    budget = e.budget;
    few = few_from_start new later;
  }
