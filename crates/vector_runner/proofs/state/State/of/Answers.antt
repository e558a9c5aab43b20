use Rattle.std.proofs.Common.{◌≡◌, List, true, All, map, sym, ap, ◌∙◌, subst}
use Rattle.vector_runner.specs.declared.vector.Field.{Field}
use Rattle.vector_runner.specs.Field.{fits, modes_of}
use Rattle.vector_runner.specs.Told.{field_told}
use Rattle.vector_runner.proofs.Mapped.{all_mapped}
use Rattle.vector_runner.proofs.state.State.of.Goals as goal

pub set_fields-requires-clause-fits : goal.set_fields-requires-clause-fits
set_fields-requires-clause-fits c =
    let same = c.modes_of-modes.ensures ∙ ap (λ fields. modes_of (map field_told fields)) c.as_slice.ensures.value in
    subst (λ (fields : List Field). All (λ f. fits c.args.vl c.args.svl c.modes_of-modes.result (field_told f) ≡ true) fields)
    (sym c.as_slice-2.ensures.value)
    (all_mapped c.args.vl c.args.svl c.modes_of-modes.result c.args.vector.now.fields.items same c.requires)
