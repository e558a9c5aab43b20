use Rattle.std.proofs.Common.{◌≡◌, ◌+◌, ◌*◌, ◌≤◌, List, length, ℕ}
use Rattle.sve_vectors.specs.Lengths.{vector_bytes}
use Rattle.signal_frames.specs.Saved.{saved_array_vector}
use Rattle.signal_frames.specs.Reading.{StandsAt, rows_from}
use Rattle.signal_frames.proofs.reading.read_array.Given as goal

abbrev pub invariant-loop-n : goal.invariant-loop-n
invariant-loop-n l =
    let s = vector_bytes l.initial.za.svl in
    record {
      same : l.za.svl ≡ l.initial.za.svl;
      read : (body : List ℕ) → StandsAt l.pages.memory l.start body → 34 * l.vector_size + 32 + s * s ≤ length body
          → l.za ≡ record l.initial.za {
            vectors = rows_from (saved_array_vector l.vector_size s body) l.n l.initial.za.vectors;
          };
    }
