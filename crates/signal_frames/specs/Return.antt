-- The return from a handler: which bytes it reads, when it is refused, and the state after it. VL and SVL are
-- so many bytes.
use Rattle.std.specs.Prelude.{◌≡◌, ℕ, ◌&&◌, nat_lt, if◌then◌else◌, List, [], length, Option, Some, None}
use Rattle.std.specs.Prelude.{unwrap_or}
use Rattle.std.specs.Prelude.{Result, Ok, Err}
use Rattle.paged_memory.specs.Memory.{AddressSpace, bytes_with, first_without}
use Rattle.machine_step.specs.ProcessorState.{ProcessorState}
use Rattle.signal_frames.specs.Layout.{head_size}
use Rattle.signal_frames.specs.Saved.{saved_size, saved_length, saved_streaming, saved_za_on, saved_tpidr}
use Rattle.signal_frames.specs.Saved.{saved_tpidr2, saved_scalars, saved_masking, body_of, saved_registers}
use Rattle.signal_frames.specs.Saved.{saved_array, is_head, is_frame}
use Rattle.signal_frames.specs.declared.head.Expected.{Expected}
use Rattle.signal_frames.specs.declared.restore.FrameFault.{FrameFault}
use Rattle.signal_frames.specs.declared.masking.Masking.{Masking}
use Rattle.sm_types.specs.declared.version.Version.{Version}

-- how many bytes are read: those of the head, and where these can be read and their fields pass, the size
-- that they give
abbrev pub count_read : Expected → Option (List ℕ) → ℕ
count_read e None = head_size e.version
count_read e (Some head) = if is_head e head then saved_size head else head_size e.version

abbrev pub read_at : Expected → AddressSpace → ℕ → ℕ
read_at e m sp = count_read e (bytes_with 4 m sp (head_size e.version))

-- the stop, from the first byte among those read that cannot be, and from what is read where all can be
abbrev pub stop_of : Expected → ℕ → Option ℕ → Option (List ℕ) → Option ℕ
stop_of e sp first None = first
stop_of e sp first (Some frame) = if nat_lt 0 e.depth && is_frame e frame then None else Some sp

-- the address of the stop, if a return is refused: the first byte among those read that cannot be, else SP,
-- where they are not those of a frame or the thread is in no handler
unfoldable pub fault_at : Expected → AddressSpace → ℕ → Option ℕ
fault_at e m sp = stop_of e sp (first_without 4 m sp (read_at e m sp)) (bytes_with 4 m sp (read_at e m sp))

-- what a thread in so many handlers expects of the frame at its SP
abbrev pub expected_of : Version → ℕ → ℕ → ProcessorState → Expected
expected_of version depth vl s = record { version = version; depth = depth; vl = vl; svl = length s.bank.za }

abbrev pub return_fault : Version → ℕ → ℕ → ProcessorState → Option ℕ
return_fault version depth vl s = fault_at (expected_of version depth vl s) s.memory s.scalars.sp

-- the state that a frame saves, with the memory of another
unfoldable pub restored : Version → List ℕ → ProcessorState → ProcessorState
restored version frame s = record {
  scalars = saved_scalars frame;
  tpidr = saved_tpidr frame;
  tpidr2 = saved_tpidr2 frame;
  streaming = saved_streaming frame;
  za_on = saved_za_on frame;
  memory = s.memory;
  bank = record {
    registers = saved_registers (saved_length frame) (body_of version frame);
    za = saved_array (saved_length frame) (length s.bank.za) (saved_za_on frame) (body_of version frame);
  };
}

-- the bytes that a return reads, which can be read
abbrev pub bytes_read : Version → ℕ → ℕ → ProcessorState → List ℕ
bytes_read version depth vl s =
    unwrap_or
    (bytes_with 4 s.memory s.scalars.sp (read_at (expected_of version depth vl s) s.memory s.scalars.sp)) []

-- the state after a return that nothing refuses
unfoldable pub returned : Version → ℕ → ℕ → ProcessorState → ProcessorState
returned version depth vl s = restored version (bytes_read version depth vl s) s

-- and how signals are masked then
unfoldable pub unmasked : Version → ℕ → ℕ → ProcessorState → Masking
unmasked version depth vl s = saved_masking version (bytes_read version depth vl s)

-- the answer of a return of a thread that is in so many handlers: it is made where nothing refuses it, and
-- else all stays
abbrev pub Returns : Version → ℕ → ℕ → ProcessorState → ProcessorState → Result Masking FrameFault → Type 0
Returns version depth vl old new (Ok masking) =
    (return_fault version depth vl old ≡ None) × (new ≡ returned version depth vl old)
    × (masking ≡ unmasked version depth vl old)
Returns version depth vl old new (Err fault) =
    (return_fault version depth vl old ≡ Some fault.0) × (new ≡ old)
