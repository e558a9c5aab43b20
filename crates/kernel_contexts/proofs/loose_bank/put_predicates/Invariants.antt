use Rattle.std.proofs.Common.{◌≡◌, ◌/◌}
use Rattle.sve_vectors.specs.State.{length_of}
use Rattle.signal_frames.specs.Reading.{with_predicates, rows_from}
use Rattle.kernel_contexts.specs.LooseParts.{truths_at}
use Rattle.kernel_contexts.proofs.loose_bank.put_predicates.Given as goal

abbrev pub invariant-loop-n : goal.invariant-loop-n
invariant-loop-n l = record {
  put : l.vectors ≡ with_predicates l.initial.vectors
      (rows_from (truths_at (length_of l.initial.vectors / 8) l.bytes) l.n l.initial.vectors.registers.predicates);
}
