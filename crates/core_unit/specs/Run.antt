-- What a run of a core makes of its first resident, and why it ends.
use Rattle.std.specs.Prelude.{◌≡◌, Bool, true, false, ℕ, ◌+◌, ◌<◌, ◌++◌, List, [], ◌∷◌}
use Rattle.std.specs.Prelude.{Option, Some, None, length}
use Rattle.sm_types.specs.declared.shared_op.Event.{Event}
use Rattle.sm_types.specs.declared.stop.Stop.{Stop}
use Rattle.mem_access.specs.declared.bank.Bank.{Bank}
use Rattle.shared_region.specs.Tickets.{Refusals, IsCause}
use Rattle.shared_region.specs.declared.port.PortStop.{PortStop}
use Rattle.shared_region.specs.declared.port.PortStop.TheVariants as refused
use Rattle.kernel_contexts.specs.State.{State}
use Rattle.kernel_contexts.specs.Context.{AsksFor, made_since, bank_with}
use Rattle.kernel_contexts.specs.Context.{MayWantMemory, IsPlaceFree, GoesOrAsks}
use Rattle.kernel_contexts.specs.declared.context.Context.{Context}
use Rattle.kernel_contexts.specs.declared.context.Turn.{Turn}
use Rattle.kernel_contexts.specs.declared.context.Turn.TheVariants as turn
use Rattle.core_unit.specs.Course.{Course, Going, GaveWay, HasStopped, course}
use Rattle.core_unit.specs.CoreState.{CoreState}
use Rattle.kernel_contexts.specs.Guest.{Guest, guest_on, next_turn}
use Rattle.core_unit.specs.Held.{Held}
use Rattle.core_unit.specs.declared.run.CoreRun.{CoreRun}
use Rattle.core_unit.specs.declared.run.RunWhy.{RunWhy}
use Rattle.core_unit.specs.declared.run.RunWhy.TheVariants as why

-- how a run ends: the thread made all the turns that it was let, gave way or stopped, or there was none; or
-- the run was cut short, since the port refused the next turn's access or memory was wanting for that turn
pub data RunEnd : Type 0 where
  Spends : RunEnd
  GivesWay : RunEnd
  Stops : RunEnd
  Idles : RunEnd
  IsCut : PortStop → RunEnd

abbrev pub end_of : RunWhy → RunEnd
end_of why.Spent = Spends
end_of why.Yielded = GivesWay
end_of why.Stopped = Stops
end_of why.Idle = Idles
end_of why.TraceEnds = IsCut refused.TraceEnds
end_of why.TraceDiffers = IsCut refused.TraceDiffers
end_of why.Memory = IsCut refused.Memory

-- why a run ends with a turn, where the thread does not go on
abbrev pub end_of_turn : Turn → Option RunWhy
end_of_turn turn.Ran = None
end_of_turn turn.Yielded = Some why.Yielded
end_of_turn turn.NeedsBank = None
end_of_turn (turn.Stopped stop) = Some why.Stopped
end_of_turn turn.TraceEnds = Some why.TraceEnds
end_of_turn turn.TraceDiffers = Some why.TraceDiffers
end_of_turn turn.Memory = Some why.Memory

-- ---- the first resident

-- where a thread stands, with the number of its events so far and the answers that are left
abbrev pub course_at : State → Option Stop → ℕ → List Event → Course
course_at s None done left = Going s done left
course_at s (Some stop) done left = HasStopped s stop done left

-- a guest thread before a run that gives it these answers
abbrev pub before_run : Guest → List Event → Course
before_run g answers = course_at g.state g.stop (length g.journal) answers

-- the answers that it was given, which are the events that it made
abbrev pub answers_of : Guest → Guest → List Event
answers_of old new = made_since old.journal new.journal

-- where so many turns at most took it, with these answers
abbrev pub course_of : Guest → Guest → ℕ → Course
course_of old new turns = course old.config old.number (before_run old (answers_of old new)) turns

-- it goes on, with all answers used
abbrev pub StillGoes : Guest → Guest → ℕ → Type 0
StillGoes old new turns =
    (course_of old new turns ≡ Going new.state (length new.journal) []) × (new.stop ≡ None)

-- memory may be wanting for the next turn of a guest thread, over a port that takes memory where this holds:
-- it may for that turn of a context on a bank which is the thread as it stands
pub record WantsTurn (takes_memory : Type 0) (g : Guest) : Type 0 where
  pub context : Context
  pub bank : Bank
  pub is : guest_on bank context ≡ g
  pub wants : MayWantMemory takes_memory context (bank_with context bank)
  pub goes : IsPlaceFree context → GoesOrAsks takes_memory (next_turn g)

-- why the next turn is not made: its operation is one that the port refuses so, or memory may be wanting for
-- it
abbrev pub IsCutBy : Refusals → Guest → PortStop → Type 0
IsCutBy refusals g refused.Memory = WantsTurn refusals.takes_memory g
IsCutBy refusals g stop = AsksFor (next_turn g) (λ op. IsCause refusals op stop)

-- the thread made turns until so many were made, it gave way or it stopped, or the run was cut short; what
-- the port refuses is told as port and ticket stand at the end
abbrev pub EndsBy : Refusals → ℕ → Guest → Guest → ℕ → RunEnd → Type 0
EndsBy refusals k old new turns Spends = StillGoes old new k × (turns ≡ k)
EndsBy refusals k old new turns GivesWay =
    (course_of old new k ≡ GaveWay new.state (length new.journal) []) × (new.stop ≡ None) × (0 < turns)
EndsBy refusals k old new turns Stops =
    (stop : Stop) × (course_of old new k ≡ HasStopped new.state stop (length new.journal) [])
    × (new.stop ≡ Some stop)
EndsBy refusals k old new turns Idles = ⊥
EndsBy refusals k old new turns (IsCut stop) =
    StillGoes old new turns × (turns < k) × IsCutBy refusals new stop

-- a run of the first resident, which is let make so many turns
pub record RunsFirst (refusals : Refusals) (k : ℕ) (old new : Guest) (run : CoreRun) : Type 0 where
  pub program : new.program ≡ old.program
  pub config : new.config ≡ old.config
  pub number : new.number ≡ old.number
  pub journal : new.journal ≡ old.journal ++ answers_of old new
  pub turns : new.state.turns ≡ old.state.turns + run.turns
  pub end : EndsBy refusals k old new run.turns (end_of run.why)

-- ---- the core

-- a run ended by a stop
abbrev pub is_stop : RunWhy → Bool
is_stop why.Stopped = true
is_stop _ = false

-- a core after the run of its first resident, which stays the first one, or is done with when it has stopped;
-- the others stay
abbrev pub core_after : {T : Type 0} → Bool → Held T → List (Held T) → CoreState T → CoreState T
core_after true first others c = record c { residents = others; done = c.done ++ first ∷ [] }
core_after false first others c = record c { residents = first ∷ others }

-- over a port that refuses so with a ticket at the end, and that gives a thread events
module _ {T : Type 0} (refusals : T → Refusals) (gives : ℕ → List Event → T → T → Type 0) (k : ℕ) where
  -- the first resident before and after a run
  pub record RunsHeld (old new : Held T) (run : CoreRun) : Type 0 where
    pub first : RunsFirst (refusals new.ticket) k old.guest new.guest run
    pub given : gives old.guest.number (answers_of old.guest new.guest) old.ticket new.ticket

  -- a core with these residents
  abbrev pub RunsWith : List (Held T) → CoreState T → CoreState T → CoreRun → Type 0
  RunsWith [] old new run = (run ≡ record { turns = 0; why = why.Idle }) × (new ≡ old)
  RunsWith (first ∷ others) old new run =
      (last : Held T) × RunsHeld first last run × (new ≡ core_after (is_stop run.why) last others old)

  abbrev pub RunsCore : CoreState T → CoreState T → CoreRun → Type 0
  RunsCore old new run = RunsWith old.residents old new run
