use Rattle.std.proofs.Common.{◌≡◌, map, take}
use Rattle.vector_runner.specs.Prepared.{IsFor, core_in}
use Rattle.vector_runner.specs.State.{with_fields}
use Rattle.vector_runner.specs.Told.{field_told}
use Rattle.vector_runner.proofs.state.State.set_fields.Given as goal

abbrev pub invariant-loop-field : goal.invariant-loop-field
invariant-loop-field l =
    IsFor l.vl l.svl l.modes l.self
    × (core_in l.self ≡ with_fields (core_in l.initial.self) (map field_told (take l.field-index l.fields)))
