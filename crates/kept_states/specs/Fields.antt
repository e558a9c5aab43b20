-- The states of a thread that may be kept: those in which a thread can be made to stand.
use Rattle.std.specs.Prelude.{◌≡◌, ℕ, ◌*◌, ◌%◌, ◌^◌, ◌<◌, ◌≤◌, length, None}
use Rattle.std.specs.FinMap.{get}
use Rattle.sm_types.specs.Options.{version_of}
use Rattle.sm_types.specs.declared.config.Config.{Config}
use Rattle.sm_types.specs.declared.limits.TheConstants.{JOURNAL_LIMIT, OUTPUT_LIMIT}
use Rattle.sm_types.specs.declared.version.Version.TheVariants.{One}
use Rattle.machine_step.specs.Machine.{IsInMode}
use Rattle.kernel_contexts.specs.HandlerTable.{handlers_of}
use Rattle.kernel_contexts.specs.Kernel.{depth_limit}
use Rattle.kernel_contexts.specs.SaveArea.{HasLengths}
use Rattle.kernel_contexts.specs.State.{State}
use Rattle.kernel_contexts.specs.Watch.{AreOfSignals}
use Rattle.report_text.specs.declared.view.StateView.{StateView}

-- what is shown is the state of a thread of a run with these options, which has made so many events
pub record IsOfThread (config : Config) (thread events : ℕ) (view : StateView) : Type 0 where
  pub number : thread < config.threads
  pub few : events ≤ JOURNAL_LIMIT
  pub depth : view.depth ≤ depth_limit (version_of config)
  pub unmasked : version_of config ≡ One → view.mask ≡ 0
  pub table : length view.handlers.now ≡ 63
  pub signals : AreOfSignals (handlers_of view.handlers.now)
  pub output : length view.output.now ≤ OUTPUT_LIMIT
  pub lengths : HasLengths config view.bank.now
  pub mode : IsInMode view.bank.now view.machine.now

-- the thread goes on from the state: it has not used up its budget, nor the turns that go with it, and no bits
-- but those of signals are masked
pub record GoesOn (config : Config) (s : State) : Type 0 where
  pub count : s.count < config.budget
  pub turns : s.turns ≤ 64 * config.budget
  pub signals : s.mask % 2 ≡ 0
  pub highest : s.mask < 2 ^ 63

-- the state may be kept: the thread goes on from it, and none of its pages stands in the shared region
pub record MayBeKept (config : Config) (s : State) : Type 0 where
  pub goes : GoesOn config s
  pub private : get s.core.memory.perm 0x7F0000000 ≡ None
