use Rattle.std.proofs.Common.{◌≡◌, take}
use Rattle.std.specs.List.{flat_map}
use Rattle.sve_vectors.specs.Predicates.{predicate_bytes}
use Rattle.kept_states.proofs.banks.read_predicates.Given as goal

abbrev pub invariant-loop-n : goal.invariant-loop-n
invariant-loop-n l = l.bytes.items ≡ flat_map predicate_bytes (take l.n l.vectors.registers.predicates)
