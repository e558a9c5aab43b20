-- A run of a handler, from the delivery of its signal to the return that ends it, and what is so after it.
-- Source: the kernel is this emulator's own.
use Rattle.std.specs.Prelude.{◌≡◌, ◌≢◌, ℕ, ◌^◌, ◌<◌, Bool, true, false, List, Contains, slice_index}
use Rattle.std.specs.FinMap.{get}
use Rattle.sm_types.specs.declared.config.Config.{Config}
use Rattle.sm_types.specs.declared.shared_op.Event.{Event}
use Rattle.machine_step.specs.ProcessorState.{vector_bytes}
use Rattle.machine_step.specs.Effect.{Calls, effect_of}
use Rattle.signal_frames.specs.Frame.{frame_address, frame_addresses}
use Rattle.signal_frames.specs.Law.{IsInRange, HasFrameAtSp}
use Rattle.sm_types.specs.declared.version.Version.TheVariants.{One}
use Rattle.sm_types.specs.Options.{version_of}
use Rattle.kernel_contexts.specs.KernelCall.{return_number}
use Rattle.kernel_contexts.specs.State.{State, masking_of}
use Rattle.kernel_contexts.specs.Call.{Goes}
use Rattle.kernel_contexts.specs.Turn.{is_poll_due, is_delivery_due, lowest_signal, turn_of}
use Rattle.kernel_contexts.specs.Run.{At, reach_from}

-- neither the budget's end nor a poll is due
pub record IsNext (config : Config) (s : State) : Type 0 where
  pub left : s.count ≢ config.budget
  pub unpolled : is_poll_due config s ≡ false

-- a state with registers of their types, and with a mask that the version of the kernel has
pub record IsPlain (config : Config) (s : State) : Type 0 where
  pub range : IsInRange (vector_bytes config.vl) s.core
  pub mask : s.mask < 2 ^ 64
  pub unmasked : version_of config ≡ One → s.mask ≡ 0

-- the handler of the lowest open signal runs over the addresses of a set, from a state to another, with so
-- many events before each and with those that are left: the first turn is the delivery, which writes its
-- frame at other addresses; the last one is a return that is made, at whose SP the frame stands with the
-- bytes that were written; and then the bytes of the set, and the pages with their permissions, are as they
-- were. Any turns stand between, those of other handlers too
pub record HandlerRun (config : Config) (thread : ℕ) (over : ℕ → Bool) (from : State) (used : ℕ)
    (left : List Event) (to : State) (used' : ℕ) (left' : List Event) : Type 0 where
  pub delivers : IsNext config from
  pub due : is_delivery_due config from ≡ true
  pub begun : State
  pub first : turn_of config thread used from ≡ Goes begun
  pub apart : (address : ℕ) → over address ≡ true
      → ¬ Contains (frame_addresses (version_of config) (vector_bytes config.vl) from.core) address
  pub turns : ℕ
  pub last : State
  pub between : reach_from config thread begun used left turns ≡ At last used' left'
  pub executes : IsNext config last
  pub undue : is_delivery_due config last ≡ false
  pub number : ℕ
  pub call : effect_of (vector_bytes config.vl) last.core ≡ Calls number
  pub return : slice_index last.core.scalars.x 8 ≡ return_number
  pub made : turn_of config thread used' last ≡ Goes to
  pub sp : last.core.scalars.sp ≡ frame_address (version_of config) (vector_bytes config.vl) from.core
  pub frame : HasFrameAtSp (version_of config) (masking_of from) (vector_bytes config.vl) (lowest_signal from)
      from.core last.core
  pub bytes : (address : ℕ) → over address ≡ true
      → get to.core.memory.mem address ≡ get from.core.memory.mem address
  pub pages : to.core.memory.perm ≡ from.core.memory.perm

-- all registers, the vectors and ZA, the mask and the depth, the bytes of a set of addresses and the pages
-- with their permissions are those of another state
pub record IsKeptOver (over : ℕ → Bool) (s t : State) : Type 0 where
  pub core : t.core ≡ record s.core { memory = t.core.memory }
  pub mask : t.mask ≡ s.mask
  pub depth : t.depth ≡ s.depth
  pub bytes : (address : ℕ) → over address ≡ true
      → get t.core.memory.mem address ≡ get s.core.memory.mem address
  pub pages : t.core.memory.perm ≡ s.core.memory.perm
