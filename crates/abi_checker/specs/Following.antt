-- A run that is under way, and what is told of it so far.
use Rattle.std.specs.Prelude.{◌≡◌, ℕ, ◌<◌, ◌≤◌, ◌^◌, true, List, Option, Some, None}
use Rattle.sm_types.specs.declared.config.Config.{Config}
use Rattle.sm_types.specs.declared.shared_op.Event.{Event}
use Rattle.shared_region.specs.Ports.{ReplayEvents}
use Rattle.paged_memory.specs.Image.{Program}
use Rattle.kernel_contexts.specs.State.{State}
use Rattle.kernel_contexts.specs.Run.{At, reach}
use Rattle.kernel_contexts.specs.Context.{state_of, image_of, config_of, thread_of, stop_of, journal_of, is_home}
use Rattle.kernel_contexts.specs.Context.{IsSameThread}
use Rattle.kernel_contexts.specs.declared.context.Context.{Context}
use Rattle.lone_runner.specs.Way.{IsOnItsWay}
use Rattle.abi_checker.specs.Checked.{IsFaulty, states_of}
use Rattle.abi_checker.specs.Whole.{ArePlainBefore}
use Rattle.abi_checker.specs.Watching.{IsWatched}
use Rattle.abi_checker.specs.declared.abi.Abi.{Abi}
use Rattle.abi_checker.specs.declared.abi.Abi.TheVariants.{Yes, No}
use Rattle.abi_checker.specs.declared.watch.Watch.{Watch}

-- up to state n this fault was found, or none was
abbrev pub IsUnderWay : (ℕ → State) → ℕ → Watch → Option Abi → Type 0
IsUnderWay run n watch None = IsWatched run n watch
IsUnderWay run n watch (Some (Yes calls unreturned)) = ⊥
IsUnderWay run n watch (Some (No count pc kind)) = IsFaulty run n count pc kind

-- of some run, with so few instructions
abbrev pub IsSomewhereWith : Watch → Option Abi → Type 0
IsSomewhereWith watch found =
    (run : ℕ → State) × (n : ℕ) × IsUnderWay run n watch found × ((run n).count < 2 ^ 32)

-- a thread on its way, which has gone on in each state so far, and what is told of these
pub record IsFollowed (program : Program) (config : Config) (thread : ℕ) (journal : List Event) (count : ℕ)
    (context : Context) (ticket : ReplayEvents) (watch : Watch) (found : Option Abi)
    : Type 0 where
  pub way : IsOnItsWay program config thread journal count context ticket
  pub goes : (m : ℕ) → m ≤ way.turns → (s : State) × (done : ℕ) × (left : List Event)
      × (reach program config thread journal m ≡ At s done left)
  pub plain : ArePlainBefore (states_of program config thread journal) config way.turns
  pub told : IsUnderWay (states_of program config thread journal) way.turns watch found

-- the context's own thread is followed so over some journal
pub record IsFollowedBySome (count : ℕ) (context : Context) (watch : Watch) (found : Option Abi) : Type 0 where
  pub journal : List Event
  pub ticket : ReplayEvents
  pub followed : IsFollowed (image_of context) (config_of context) (thread_of context) journal count context
      ticket watch found

-- the thread goes on, home, with the same events, after no fewer turns and instructions
pub record GoesFar (old new : Context) : Type 0 where
  pub home : is_home new ≡ true
  pub stop : stop_of new ≡ None
  pub journal : journal_of new ≡ journal_of old
  pub same : IsSameThread old new
  pub more : (state_of old).turns ≤ (state_of new).turns
  pub count : (state_of old).count ≤ (state_of new).count
