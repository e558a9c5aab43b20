use Rattle.std.proofs.Common.{◌≡◌, ◌*◌, ◌≤◌, List, length, ℕ}
use Rattle.sve_vectors.specs.State.{length_of}
use Rattle.signal_frames.specs.Saved.{saved_vector}
use Rattle.signal_frames.specs.Reading.{StandsAt, KeepsLengths, with_vectors, rows_from}
use Rattle.signal_frames.proofs.reading.read_vectors.Given as goal

abbrev pub invariant-loop-n : goal.invariant-loop-n
invariant-loop-n l = record {
  same : KeepsLengths l.initial.vectors l.vectors;
  read : (body : List ℕ) → StandsAt l.pages.memory l.start body → 32 * length_of l.initial.vectors ≤ length body
      → l.vectors ≡ with_vectors l.initial.vectors
      (rows_from (saved_vector (length_of l.initial.vectors) body) l.n l.initial.vectors.registers.vectors);
}
