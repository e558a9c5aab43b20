use Rattle.std.proofs.Common.{◌≡◌, ◌++◌, map, take}
use Rattle.vector_runner.specs.Answer.{spaced}
use Rattle.vector_runner.specs.Told.{field_told}
use Rattle.vector_runner.proofs.text.put_fields.Given as goal

abbrev pub invariant-loop-field : goal.invariant-loop-field
invariant-loop-field l = l.line.items ≡ l.initial.line.items ++ spaced (map field_told (take l.field-index l.fields))
