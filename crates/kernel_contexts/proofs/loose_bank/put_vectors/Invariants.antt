use Rattle.std.proofs.Common.{◌≡◌}
use Rattle.sve_vectors.specs.State.{length_of}
use Rattle.signal_frames.specs.Reading.{with_vectors, rows_from}
use Rattle.kernel_contexts.specs.LooseParts.{piece}
use Rattle.kernel_contexts.proofs.loose_bank.put_vectors.Given as goal

abbrev pub invariant-loop-n : goal.invariant-loop-n
invariant-loop-n l = record {
  put : l.vectors ≡ with_vectors l.initial.vectors
      (rows_from (piece (length_of l.initial.vectors) l.bytes) l.n l.initial.vectors.registers.vectors);
}
