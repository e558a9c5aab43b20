-- That a frame keeps all of a state but its memory.
use Rattle.std.specs.Prelude.{◌≡◌, ℕ, ◌%◌, ◌^◌, ◌<◌, ◌≤◌, false, length, slice_index, Some}
use Rattle.sve_vectors.specs.Registers.{AreOfLength}
use Rattle.za_array.specs.Array.{IsSquare, zero_vectors}
use Rattle.paged_memory.specs.Memory.{bytes_with}
use Rattle.machine_step.specs.ProcessorState.{ProcessorState}
use Rattle.machine_step.specs.Mode.{length_at}
use Rattle.signal_frames.specs.Frame.{size_of, frame_bytes}
use Rattle.signal_frames.specs.Return.{returned, unmasked}
use Rattle.signal_frames.specs.declared.masking.Masking.{Masking}
use Rattle.sm_types.specs.declared.version.Version.{Version}
use Rattle.sm_types.specs.declared.version.Version.TheVariants.{One, Two}

-- a state whose registers have the ranges and the lengths of their types
pub record IsInRange (vl : ℕ) (s : ProcessorState) : Type 0 where
  pub count : length s.scalars.x ≡ 31
  pub x : (k : ℕ) → slice_index s.scalars.x k < 2 ^ 64
  pub sp : s.scalars.sp < 2 ^ 64
  pub pc : s.scalars.pc < 2 ^ 64
  pub tpidr : s.tpidr < 2 ^ 64
  pub tpidr2 : s.tpidr2 < 2 ^ 64
  pub registers : AreOfLength (length_at vl s) s.bank.registers
  pub small : length_at vl s ≤ 256
  pub whole : length_at vl s % 16 ≡ 0
  pub square : IsSquare (length s.bank.za) s.bank.za
  pub narrow : length s.bank.za ≤ 256
  pub off : s.za_on ≡ false → s.bank.za ≡ zero_vectors (length s.bank.za)

-- a mask and a depth that a frame of a version saves: version 1 has none
abbrev pub IsSaveable : Version → Masking → Type 0
IsSaveable One masking = (masking.mask ≡ 0) × (masking.depth ≡ 0)
IsSaveable Two masking = (masking.mask < 2 ^ 64) × (masking.depth < 2 ^ 32)

-- a mask of signals alone and a depth, to which a thread that is in so many handlers may return
abbrev pub MayReturnTo : Version → Masking → ℕ → Type 0
MayReturnTo One masking depth = 0 < depth
MayReturnTo Two masking depth =
    (masking.mask % 2 ≡ 0) × (masking.mask < 2 ^ 63) × (masking.depth < depth)

-- a frame of the state can be read at SP of another
abbrev pub HasFrameAtSp : Version → Masking → ℕ → ℕ → ProcessorState → ProcessorState → Type 0
HasFrameAtSp version masking vl signal s t =
    bytes_with 4 t.memory t.scalars.sp (size_of version vl s) ≡ Some (frame_bytes version masking vl signal s)

-- a return brings back the state, but for memory
abbrev pub BringsBack : Version → Masking → ℕ → ℕ → ProcessorState → ProcessorState → Type 0
BringsBack version masking depth vl s t =
    (returned version depth vl t ≡ record s { memory = t.memory }) × (unmasked version depth vl t ≡ masking)
