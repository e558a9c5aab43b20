use Rattle.std.proofs.Common.{◌≡◌, ◌++◌, map, drop}
use Rattle.sve_vectors.specs.Predicates.{predicate_bytes}
use Rattle.vector_runner.specs.Answer.{numbered_fields, bytes_field}
use Rattle.vector_runner.specs.Field.{P}
use Rattle.vector_runner.specs.Told.{field_told}
use Rattle.vector_runner.proofs.registers.push_p.Given as goal

abbrev pub invariant-loop-n : goal.invariant-loop-n
invariant-loop-n l =
    map field_told l.fields.items ++ numbered_fields (λ n it. bytes_field (P n) it) l.n
    (drop l.n (map predicate_bytes l.vectors.registers.predicates))
    ≡ map field_told l.initial.fields.items ++ numbered_fields (λ n it. bytes_field (P n) it) 0
    (map predicate_bytes l.vectors.registers.predicates)
