use Rattle.std.proofs.Common.{◌≡◌}
use Rattle.sve_vectors.specs.Lengths.{vector_bytes}
use Rattle.signal_frames.specs.Reading.{rows_from}
use Rattle.kernel_contexts.specs.LooseParts.{piece, with_array}
use Rattle.kernel_contexts.proofs.loose_bank.put_array.Given as goal

abbrev pub invariant-loop-n : goal.invariant-loop-n
invariant-loop-n l = record {
  put : l.za ≡ with_array l.initial.za (rows_from (piece (vector_bytes l.initial.za.svl) l.bytes) l.n l.initial.za.vectors);
}
