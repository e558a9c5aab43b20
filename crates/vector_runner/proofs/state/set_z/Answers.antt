use Rattle.std.proofs.Common.{length, sym, ap, ◌∙◌}
use Rattle.sve_vectors.specs.Lending.{with_vector_bytes}
use Rattle.sve_vectors.proofs.Whole.{vector_whole}
use Rattle.vector_runner.proofs.state.set_z.Goals as goal

pub returns : goal.returns
returns c =
    let s = c.args.vectors.now in
    ap (with_vector_bytes s c.args.n) c.copy_from_slice.ensures.after
    ∙ vector_whole s c.args.n c.args.bytes.now (c.requires.long ∙ sym c.z_mut.ensures.long ∙ ap length c.z_mut.ensures.value)
