-- The turns of a resident until one needs the bank, which its thread does not own.
use Rattle.std.specs.Prelude.{◌≡◌, ℕ, ◌+◌, ◌<◌, ◌≤◌, ◌++◌, Bool, true, false, List, [], None, length}
use Rattle.sm_types.specs.declared.shared_op.Event.{Event}
use Rattle.shared_region.specs.Tickets.{Refusals}
use Rattle.mem_access.specs.declared.bank.Bank.{Bank}
use Rattle.machine_step.specs.Machine.{IsSameBank}
use Rattle.kernel_contexts.specs.Context.{IsOn, IsSameThread, made_by, owns, thread_of}
use Rattle.kernel_contexts.specs.Needs.{needs_vectors}
use Rattle.kernel_contexts.specs.declared.context.Context.{Context}
use Rattle.kernel_contexts.specs.declared.context.Turn.{Turn}
use Rattle.kernel_contexts.specs.declared.context.Turn.TheVariants as turn
use Rattle.core_unit.specs.Course.{Going}
use Rattle.kernel_contexts.specs.Guest.{Guest, guest_on}
use Rattle.core_unit.specs.Need.{first_need_of, need_in_run}
use Rattle.core_unit.specs.Run.{RunsFirst, course_of, answers_of}
use Rattle.core_unit.specs.declared.turns.TurnsEnd.{TurnsEnd}
use Rattle.core_unit.specs.declared.turns.TurnsEnd.TheVariants.{Ended, NeedsBank}

-- a turn is not made, since it needs the bank
abbrev pub waits : Turn → Bool
waits turn.Ran = false
waits turn.Yielded = false
waits turn.NeedsBank = true
waits (turn.Stopped stop) = false
waits turn.TraceEnds = false
waits turn.TraceDiffers = false
waits turn.Memory = false

-- so many turns were made, and the thread goes on
pub record HasMade (old : Guest) (turns : ℕ) (now : Guest) : Type 0 where
  pub program : now.program ≡ old.program
  pub config : now.config ≡ old.config
  pub number : now.number ≡ old.number
  pub journal : now.journal ≡ old.journal ++ answers_of old now
  pub turned : now.state.turns ≡ old.state.turns + turns
  pub goes : course_of old now turns ≡ Going now.state (length now.journal) []
  pub runs : now.stop ≡ None

-- the turns end as a run does, and of a thread that does not own the bank none needed it; or fewer were made
-- than the thread was let make, none of which needed the bank, and the next one does
abbrev pub TurnsMade : Refusals → ℕ → Guest → Guest → Bool → TurnsEnd → Type 0
TurnsMade refusals k old new owned (Ended run) =
    RunsFirst refusals k old new run
    × (run.turns ≤ k)
    × (owned ≡ false → need_in_run k old new run ≡ None)
TurnsMade refusals k old new owned (NeedsBank turns) =
    HasMade old turns new
    × (turns < k)
    × (owned ≡ false)
    × (first_need_of old new turns ≡ None)
    × (needs_vectors new.config new.state ≡ true)

-- the turns of a resident on a bank, over a port that refuses so, which gave the events: a bank that is not its
-- thread's stays as it is
pub record MakesTurns (refusals : Refusals) (given : List Event → Type 0) (k : ℕ) (old : Context) (before : Bank)
    (new : Context) (after : Bank) (end : TurnsEnd) : Type 0 where
  pub turns : TurnsMade refusals k (guest_on before old) (guest_on after new) (owns before (thread_of old)) end
  pub gives : given (made_by old new)
  pub on : IsOn new after
  pub bank : IsSameBank before after
  pub apart : owns before (thread_of old) ≡ false → after ≡ before
  pub same : IsSameThread old new
