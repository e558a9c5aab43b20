-- Which turns of a resident read or write vectors. Source: this emulator's own kernel.
use Rattle.std.specs.Prelude.{◌+◌, Bool, false, cond, ℕ, zero, suc, Option, Some, None}
use Rattle.sm_types.specs.declared.config.Config.{Config}
use Rattle.kernel_contexts.specs.Needs.{needs_vectors}
use Rattle.core_unit.specs.Course.{Course, Going, GaveWay, HasStopped, Unanswered, course}
use Rattle.kernel_contexts.specs.Guest.{Guest}
use Rattle.core_unit.specs.Run.{RunEnd, Spends, GivesWay, Stops, Idles, IsCut, end_of}
use Rattle.core_unit.specs.Run.{before_run, answers_of}
use Rattle.core_unit.specs.declared.run.CoreRun.{CoreRun}

-- the turn that a thread makes from this place reads or writes vectors
abbrev pub needs_at : Config → Course → Bool
needs_at config (Going s done left) = needs_vectors config s
needs_at config (GaveWay s done left) = false
needs_at config (HasStopped s stop done left) = false
needs_at config (Unanswered s done left) = false

-- a turn before this one, or this one where it needs vectors
abbrev pub or_this : Option ℕ → Bool → ℕ → Option ℕ
or_this (Some earlier) needs turn = Some earlier
or_this None needs turn = cond needs (Some turn) None

-- the first of so many turns that reads or writes vectors, by the number of turns before it
unfoldable pub first_need : Config → ℕ → Course → ℕ → Option ℕ
first_need config thread from zero = None
first_need config thread from (suc n) =
    or_this (first_need config thread from n) (needs_at config (course config thread from n)) n

-- the same of a guest thread before and after a run
abbrev pub first_need_of : Guest → Guest → ℕ → Option ℕ
first_need_of old new turns =
    first_need old.config old.number (before_run old (answers_of old new)) turns

-- the turns that a thread begins which is let make so many, and made so many: all, of which it makes none
-- once it gave way or stopped; where the run was cut short, one more than it made
abbrev pub turns_begun : RunEnd → ℕ → ℕ → ℕ
turns_begun Spends k made = k
turns_begun GivesWay k made = k
turns_begun Stops k made = k
turns_begun Idles k made = 0
turns_begun (IsCut stop) k made = made + 1

-- the first of the turns that a run began which reads or writes vectors
abbrev pub need_in_run : ℕ → Guest → Guest → CoreRun → Option ℕ
need_in_run k first last run = first_need_of first last (turns_begun (end_of run.why) k run.turns)
