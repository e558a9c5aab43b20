-- A handler that returns at once: its first instruction is the call that ends it.
-- Source: the kernel is this emulator's own.
use Rattle.std.specs.Prelude.{◌≡◌, ℕ, ◌%◌, ◌^◌, ◌<◌, Bool, true, false, None, Contains, slice_index}
use Rattle.sm_types.specs.declared.config.Config.{Config}
use Rattle.sm_types.specs.Options.{version_of}
use Rattle.paged_memory.specs.Memory.{first_without}
use Rattle.machine_step.specs.ProcessorState.{vector_bytes}
use Rattle.machine_step.specs.Effect.{Calls, effect_of}
use Rattle.signal_frames.specs.Frame.{size_of, frame_address, frame_addresses}
use Rattle.kernel_contexts.specs.KernelCall.{return_number}
use Rattle.kernel_contexts.specs.State.{State}
use Rattle.kernel_contexts.specs.Turn.{is_delivery_due}
use Rattle.kernel_contexts.specs.HandlerRun.{IsNext, IsPlain}
use Rattle.kernel_contexts.specs.Watch.{AreOfSignals}

-- a delivery is due, and neither a poll nor the budget's end, in a plain state whose handlers and mask are of
-- signals alone, and each byte of its frame may be read
pub record MayDeliver (config : Config) (s : State) : Type 0 where
  pub plain : IsPlain config s
  pub next : IsNext config s
  pub due : is_delivery_due config s ≡ true
  pub handlers : AreOfSignals s.handlers
  pub even : s.mask % 2 ≡ 0
  pub low : s.mask < 2 ^ 63
  pub readable : first_without 4 s.core.memory
      (frame_address (version_of config) (vector_bytes config.vl) s.core)
      (size_of (version_of config) (vector_bytes config.vl) s.core) ≡ None

-- the next turn is an instruction that calls the return
pub record IsReturnNext (config : Config) (s : State) : Type 0 where
  pub next : IsNext config s
  pub undue : is_delivery_due config s ≡ false
  pub number : ℕ
  pub call : effect_of (vector_bytes config.vl) s.core ≡ Calls number
  pub return : slice_index s.core.scalars.x 8 ≡ return_number

-- no address of a set is one of the frame that a delivery writes
abbrev pub IsApart : Config → (ℕ → Bool) → State → Type 0
IsApart config over s =
    (address : ℕ) → over address ≡ true
    → ¬ Contains (frame_addresses (version_of config) (vector_bytes config.vl) s.core) address
