-- The delivery of a signal: the frame that it writes, and the state after it. Source: the kernel is this
-- emulator's own. VL is so many bytes.
use Rattle.std.specs.Prelude.{◌≡◌, ℕ, ◌+◌, ◌-◌, ◌*◌, ◌/◌, ◌%◌, ◌^◌, false, List, [], ◌∷◌, ◌++◌, length}
use Rattle.std.specs.Prelude.{slice_set, Option, Some, None, Result, Ok, Err}
use Rattle.sm_types.specs.declared.scalars.Scalars.{Scalars}
use Rattle.paged_memory.specs.Memory.{first_without, run_of}
use Rattle.paged_memory.specs.PageTable.{PageTable, AreOwned}
use Rattle.mem_access.specs.Runs.{with_bytes}
use Rattle.machine_step.specs.ProcessorState.{ProcessorState}
use Rattle.machine_step.specs.Mode.{length_at, with_sm, with_za}
use Rattle.machine_step.specs.System.{nzcv_of, svcr_of}
use Rattle.signal_frames.specs.Layout.{frame_size, head_bytes, masking_bytes, vector_state_bytes}
use Rattle.signal_frames.specs.declared.masking.Masking.{Masking}
use Rattle.sm_types.specs.declared.version.Version.{Version}
use Rattle.signal_frames.specs.declared.delivery.FrameStop.{FrameStop}
use Rattle.signal_frames.specs.declared.delivery.FrameStop.TheVariants.{BadFrame, Memory}

-- how many bytes the frame of a state has
abbrev pub size_of : Version → ℕ → ProcessorState → ℕ
size_of version vl s = frame_size version (length_at vl s) (length s.bank.za) s.za_on

-- where it starts: at SP minus its size, rounded down to a multiple of 16, modulo 2 ^ 64
unfoldable pub frame_address : Version → ℕ → ProcessorState → ℕ
frame_address version vl s = (s.scalars.sp + (2 ^ 64 - size_of version vl s)) % 2 ^ 64 / 16 * 16

-- the addresses of its bytes
unfoldable pub frame_addresses : Version → ℕ → ProcessorState → List ℕ
frame_addresses version vl s = run_of (frame_address version vl s) (size_of version vl s)

-- its bytes, for a signal, where the signals of the thread are masked so
unfoldable pub frame_bytes : Version → Masking → ℕ → ℕ → ProcessorState → List ℕ
frame_bytes version masking vl signal s =
    head_bytes version (size_of version vl s ∷ signal ∷ []) s.scalars.x
    (s.scalars.sp ∷ s.scalars.pc ∷ nzcv_of s.scalars ∷ svcr_of s ∷ s.tpidr2 ∷ s.tpidr ∷ [])
    (length_at vl s ∷ length s.bank.za ∷ [])
    ++ (masking_bytes version masking
    ++ vector_state_bytes (length_at vl s) s.za_on s.bank.registers s.bank.za)

-- the first of its bytes, in their order, that may not be written
unfoldable pub frame_fault : Version → ℕ → ProcessorState → Option ℕ
frame_fault version vl s = first_without 2 s.memory (frame_address version vl s) (size_of version vl s)

-- the registers with which a handler begins: X0 is the signal, X1 and SP are the frame's address, X30 is 0;
-- the others and the flags stay
abbrev pub handler_scalars : ℕ → ℕ → ℕ → Scalars → Scalars
handler_scalars signal handler address s = record s {
  x = slice_set (slice_set (slice_set s.x 0 signal) 1 address) 30 0;
  sp = address;
  pc = handler;
}

-- the state with which a handler begins, outside Streaming SVE mode and with ZA off
unfoldable pub entered : ℕ → ℕ → ℕ → ℕ → ProcessorState → ProcessorState
entered vl signal handler address s =
    record (with_za false (with_sm vl false s)) {
      scalars = handler_scalars signal handler address s.scalars;
      tpidr2 = 0;
    }

-- with the frame of a state in its memory
unfoldable pub with_frame : Version → Masking → ℕ → ℕ → ProcessorState → ProcessorState
with_frame version masking vl signal s =
    record s {
      memory = with_bytes s.memory (frame_address version vl s) (frame_bytes version masking vl signal s);
    }

-- the state after a delivery: the frame is that of the state before it
abbrev pub delivered : Version → Masking → ℕ → ℕ → ℕ → ProcessorState → ProcessorState
delivered version masking vl signal handler s =
    entered vl signal handler (frame_address version vl s) (with_frame version masking vl signal s)

-- the byte for which a frame is not written; want of memory names none
abbrev pub byte_of : FrameStop → Option ℕ
byte_of (BadFrame address) = Some address
byte_of Memory = None

-- the answer of a delivery: where a byte of the frame may not be written, or memory is wanting, all stays
abbrev pub Delivers :
    Version → Masking → ℕ → ℕ → ℕ → ProcessorState → ProcessorState → Result (Unit {0}) FrameStop → Type 0
Delivers version masking vl signal handler old new (Ok done) =
    (frame_fault version vl old ≡ None) × (new ≡ delivered version masking vl signal handler old)
Delivers version masking vl signal handler old new (Err stop) =
    (frame_fault version vl old ≡ byte_of stop) × (new ≡ old)

-- the pages of the frame of a state are owned
unfoldable pub HasFrameRoom : Version → ℕ → ProcessorState → PageTable → Type 0
HasFrameRoom version vl s pages = AreOwned pages (frame_address version vl s) (size_of version vl s)
