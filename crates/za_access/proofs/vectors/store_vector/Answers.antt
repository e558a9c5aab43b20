use Rattle.std.proofs.Common.{ap, ◌∙◌, refl, length}
use Rattle.sve_vectors.specs.Lengths.{vector_bytes}
use Rattle.sve_access.proofs.Kept.{run_owned}
use Rattle.za_access.specs.Vectors.{vector_address, vector_access}
use Rattle.za_access.proofs.vectors.store_vector.Goals as goal

pub returns-clause-room : goal.returns-clause-room
unfolding vector_access
returns-clause-room c = λ room.
    let address = vector_address c.args.offset c.args.rn c.args.s.now in
    let size = vector_bytes c.args.za.now.svl in
    c.store_run.ensures.room (run_owned c.args.pages.now c.vector_run-run.result.address (length c.vector.result.now)
    (address size) size (c.vector_run-run.ensures.address ∙ ap address c.size-size.ensures.value) c.vector.ensures.long (room refl))
