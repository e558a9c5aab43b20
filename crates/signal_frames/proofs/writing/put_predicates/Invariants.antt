use Rattle.std.proofs.Common.{take}
use Rattle.std.specs.List.{flat_map}
use Rattle.sve_vectors.specs.Predicates.{predicate_bytes}
use Rattle.signal_frames.specs.Writing.{PutsPart}
use Rattle.signal_frames.proofs.writing.put_predicates.Given as goal

abbrev pub invariant-loop-n : goal.invariant-loop-n
invariant-loop-n l =
    PutsPart l.initial.pages l.pages l.address l.next (flat_map predicate_bytes (take l.n l.vectors.registers.predicates))
