use Rattle.std.proofs.Common.{◌≡◌, ◌++◌, map, drop}
use Rattle.vector_runner.specs.Answer.{numbered_fields, bytes_field}
use Rattle.vector_runner.specs.Field.{Z}
use Rattle.vector_runner.specs.Told.{field_told}
use Rattle.vector_runner.proofs.registers.push_z.Given as goal

abbrev pub invariant-loop-n : goal.invariant-loop-n
invariant-loop-n l =
    map field_told l.fields.items ++ numbered_fields (λ n it. bytes_field (Z n) it) l.n (drop l.n (l.vectors.registers.vectors))
    ≡ map field_told l.initial.fields.items ++ numbered_fields (λ n it. bytes_field (Z n) it) 0 (l.vectors.registers.vectors)
