-- What a return leaves.
use Rattle.std.proofs.Common.{◌≡◌, ℕ, ◌+◌, ◌≤◌, Bool, List, length, refl, ap, sym, ◌∙◌}
use Rattle.sm_types.specs.declared.scalars.Scalars.{Scalars}
use Rattle.sm_types.specs.declared.length.VecLen.{VecLen}
use Rattle.sve_vectors.specs.Lengths.{vector_bytes, current_bytes}
use Rattle.sve_vectors.specs.Registers.{VectorRegisters}
use Rattle.machine_step.specs.ProcessorState.{ProcessorState}
use Rattle.signal_frames.specs.Layout.{head_size}
use Rattle.signal_frames.specs.Saved.{number_at, saved_scalars, saved_streaming, saved_za_on, saved_length, saved_tpidr, saved_tpidr2}
use Rattle.signal_frames.specs.Saved.{body_of, saved_registers, saved_array}
use Rattle.signal_frames.specs.Return.{restored}
use Rattle.signal_frames.specs.Reading.{IsSaved}
use Rattle.signal_frames.specs.declared.head.Expected.{Expected}
use Rattle.sm_types.specs.declared.version.Version.{Version}
use Rattle.signal_frames.proofs.Fields.{number_in_head, head_says}

-- the state that was put together
pub same_state : (version : Version) (frame : List ℕ) (s : ProcessorState) (scalars : Scalars) (streaming za_on : Bool) (tpidr tpidr2 : ℕ)
    (registers : VectorRegisters) (za : List (List ℕ)) → scalars ≡ saved_scalars frame → streaming ≡ saved_streaming frame
    → za_on ≡ saved_za_on frame → tpidr ≡ saved_tpidr frame → tpidr2 ≡ saved_tpidr2 frame
    → registers ≡ saved_registers (saved_length frame) (body_of version frame)
    → za ≡ saved_array (saved_length frame) (length s.bank.za) (saved_za_on frame) (body_of version frame)
    → (let made : ProcessorState = record {
      scalars = scalars;
      tpidr = tpidr;
      tpidr2 = tpidr2;
      streaming = streaming;
      za_on = za_on;
      memory = s.memory;
      bank = record { registers = registers; za = za };
    } in made) ≡ restored version frame s
unfolding restored
same_state version frame s scalars streaming za_on tpidr tpidr2 registers za a b c d e f g = rw (a, b, c, d, e, f, g) refl

-- a field of the head, as the code reads it
pub field_is : (e : Expected) (s : ProcessorState) (head frame : List ℕ) (offset n x : ℕ)
    → IsSaved e s.memory s.scalars.sp head frame → offset + n ≤ head_size e.version → x ≡ number_at head offset n
    → x ≡ number_at frame offset n
field_is e s head frame offset n x saved l is =
    is ∙ ap (λ k. number_at k offset n) (sym saved.first) ∙ number_in_head (head_size e.version) frame offset n l

pub length_saved : (e : Expected) (vl svl : VecLen) (frame : List ℕ) (streaming : Bool) (m : ProcessorState) (head : List ℕ)
    → e.vl ≡ vector_bytes vl → e.svl ≡ vector_bytes svl
    → IsSaved e m.memory m.scalars.sp head frame → streaming ≡ saved_streaming frame
    → current_bytes vl svl streaming ≡ saved_length frame
length_saved e vl svl frame streaming m head one two saved mode =
    ap (current_bytes vl svl) mode
    ∙ rw (sym one, sym two) (sym (head_says e frame saved.fields).length)
