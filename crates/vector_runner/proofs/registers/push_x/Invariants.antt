use Rattle.std.proofs.Common.{◌≡◌, ◌++◌, map, drop}
use Rattle.vector_runner.specs.Answer.{numbered_fields, number_field}
use Rattle.vector_runner.specs.Field.{X}
use Rattle.vector_runner.specs.Told.{field_told}
use Rattle.vector_runner.proofs.registers.push_x.Given as goal

abbrev pub invariant-loop-n : goal.invariant-loop-n
invariant-loop-n l =
    map field_told l.fields.items ++ numbered_fields (λ n it. number_field (X n) it) l.n (drop l.n (l.values))
    ≡ map field_told l.initial.fields.items ++ numbered_fields (λ n it. number_field (X n) it) 0 (l.values)
