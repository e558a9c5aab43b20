use Rattle.std.proofs.Common.{◌≡◌, map, take}
use Rattle.vector_runner.specs.Field.{modes_of}
use Rattle.vector_runner.specs.Told.{field_told}
use Rattle.vector_runner.proofs.state.modes_of.Given as goal

abbrev pub invariant-loop-field : goal.invariant-loop-field
invariant-loop-field l = l.modes ≡ modes_of (map field_told (take l.field-index l.fields))
