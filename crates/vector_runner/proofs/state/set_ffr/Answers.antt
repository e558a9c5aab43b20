use Rattle.std.proofs.Common.{sym, ap, ◌∙◌}
use Rattle.sve_vectors.specs.Lending.{with_ffr_bytes}
use Rattle.sve_vectors.proofs.Whole.{ffr_whole}
use Rattle.vector_runner.proofs.state.set_ffr.Goals as goal

pub returns : goal.returns
returns c =
    let s = c.args.vectors.now in
    ap (with_ffr_bytes s) c.copy_from_slice.ensures.after
    ∙ ffr_whole s c.ffr_mut.result.now c.args.bytes.now c.ffr_mut.ensures.value (c.requires ∙ sym c.ffr_mut.ensures.long)
