-- A guest thread makes a turn, or has stopped and stays as it is.
use Rattle.std.proofs.Common.{◌≡◌, ℕ, ◌++◌, Bool, Option, Some, None, length, refl, subst}
use Rattle.sm_types.specs.declared.stop.Stop.{Stop}
use Rattle.shared_region.specs.Tickets.{Refusals}
use Rattle.paged_memory.specs.Image.{Program}
use Rattle.kernel_contexts.specs.Standing.{IsRunOf}
use Rattle.kernel_contexts.specs.Turn.{turn_of}
use Rattle.kernel_contexts.specs.Context.{TurnsUnless, guest_made, IsSameGuest}
use Rattle.kernel_contexts.specs.Stance.{Stance, turn_from, TurnsFrom}
use Rattle.kernel_contexts.specs.declared.context.Turn.{Turn}
use Rattle.kernel_contexts.specs.declared.context.Turn.TheVariants.{Stopped}
use Rattle.kernel_contexts.proofs.Kept.{run_kept, run_same, run_unless}

pub turns_from : (stop : Option Stop) (kept : Bool) (refusals : Refusals) (old new : Stance) (turn : Turn) → stop ≡ None
    → TurnsUnless kept refusals (turn_from old) old.state new.state (guest_made old.thread new.thread) new.thread.stop turn
    → TurnsFrom stop kept refusals old new turn
turns_from None kept refusals old new turn e h = h
turns_from (Some stop) kept refusals old new turn e h = cc

pub stays_at : (stop : Option Stop) (kept : Bool) (refusals : Refusals) (s : Stance) (at : Stop) → stop ≡ Some at → s.thread.stop ≡ stop
    → TurnsFrom stop kept refusals s s (Stopped at)
stays_at None kept refusals s at e now = cc
stays_at (Some stop) kept refusals s at e now = (cc, refl, refl, now)

-- it stays a run of its program
module _ (program : Program) (kept : Bool) (refusals : Refusals) (old new : Stance) (turn : Turn)
    (all : old.events ≡ length old.thread.journal.items) (same : IsSameGuest old.thread new.thread)
    (grows : new.thread.journal.items ≡ old.thread.journal.items ++ guest_made old.thread new.thread) where
  pub run_on : (stop : Option Stop) → TurnsFrom stop kept refusals old new turn
      → IsRunOf program old.thread.config old.thread.number old.thread.journal.items old.state stop
      → IsRunOf program new.thread.config new.thread.number new.thread.journal.items new.state new.thread.stop
  run_on None h run =
      run_kept program old.thread.config new.thread.config old.thread.number new.thread.number new.thread.journal.items new.state
      new.thread.stop same.config same.number
      (run_unless kept program old.thread.config old.thread.number refusals old.state new.state old.thread.journal.items
      new.thread.journal.items (guest_made old.thread new.thread) None new.thread.stop turn run refl grows
      (subst (λ (n : ℕ). TurnsUnless kept refusals (turn_of old.thread.config old.thread.number n old.state) old.state new.state
      (guest_made old.thread new.thread) new.thread.stop turn) all h))
  run_on (Some stop) h run =
      run_same program old.thread.config new.thread.config old.thread.number new.thread.number old.thread.journal.items
      new.thread.journal.items old.state new.state (Some stop) new.thread.stop same.config same.number h.2 h.1 h.3 run
