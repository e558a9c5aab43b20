use Rattle.std.proofs.Common.{sym, ap, ◌∙◌}
use Rattle.sve_vectors.specs.Lending.{with_predicate_bytes}
use Rattle.sve_vectors.proofs.Whole.{predicate_whole}
use Rattle.vector_runner.proofs.state.set_p.Goals as goal

pub returns : goal.returns
returns c =
    let s = c.args.vectors.now in
    ap (with_predicate_bytes s c.args.n) c.copy_from_slice.ensures.after
    ∙ predicate_whole s c.args.n c.p_mut.result.now c.args.bytes.now c.p_mut.ensures.value (c.requires.long ∙ sym c.p_mut.ensures.long)
