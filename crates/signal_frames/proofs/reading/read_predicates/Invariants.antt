use Rattle.std.proofs.Common.{◌≡◌, ◌*◌, ◌≤◌, List, length, ℕ}
use Rattle.sve_vectors.specs.State.{length_of}
use Rattle.signal_frames.specs.Saved.{saved_predicate}
use Rattle.signal_frames.specs.Reading.{StandsAt, KeepsLengths, with_predicates, rows_from}
use Rattle.signal_frames.proofs.reading.read_predicates.Given as goal

abbrev pub invariant-loop-n : goal.invariant-loop-n
invariant-loop-n l = record {
  same : KeepsLengths l.initial.vectors l.vectors;
  read : (body : List ℕ) → StandsAt l.pages.memory l.start body → 34 * length_of l.initial.vectors ≤ length body
      → l.vectors ≡ with_predicates l.initial.vectors
      (rows_from (saved_predicate (length_of l.initial.vectors) body) l.n l.initial.vectors.registers.predicates);
}
