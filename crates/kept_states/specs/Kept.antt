-- Which state of a thread is kept.
use Rattle.std.specs.Prelude.{◌≡◌, ℕ}
use Rattle.sm_types.specs.declared.config.Config.{Config}
use Rattle.kernel_contexts.specs.State.{State}
use Rattle.kernel_contexts.specs.LooseState.{HasScalars, HasVectors, HasKernel}
use Rattle.kept_states.specs.Pages.{HasShared}
use Rattle.kept_states.specs.declared.kept.KeptState.{KeptState}

-- the options of the thread's run
abbrev pub kept_config : KeptState → Config
kept_config k = k.config

-- the thread's number
abbrev pub kept_thread : KeptState → ℕ
kept_thread k = k.fields.thread

-- how many instructions are counted in the state
abbrev pub kept_count : KeptState → ℕ
kept_count k = k.fields.count

-- how many events the thread has made so far
abbrev pub kept_events : KeptState → ℕ
kept_events k = k.fields.events

-- the state is the one that is kept
pub record Keeps (k : KeptState) (s : State) : Type 0 where
  pub scalars : HasScalars k.fields s
  pub vectors : HasVectors (kept_config k) k.fields s.core.bank
  pub memory : HasShared s.core.memory k.pages.items
  pub kernel : HasKernel k.fields s

-- it is kept of a thread of a run with these options, after so many events
pub record IsKept (config : Config) (thread events : ℕ) (s : State) (k : KeptState) : Type 0 where
  pub config_is : kept_config k ≡ config
  pub thread_is : kept_thread k ≡ thread
  pub events_are : kept_events k ≡ events
  pub keeps : Keeps k s
