use Rattle.std.proofs.Common.{◌*◌}
use Rattle.vector_runner.proofs.Fitting.{share_fit}
use Rattle.vector_runner.proofs.run.work.Goals as goal

pub answer_all-requires : goal.answer_all-requires
answer_all-requires g c =
    share_fit c.args.vl c.args.svl c.args.vectors.now c.share_of-share.result.now c.args.size
    (c.args.worker * c.args.size) c.share_of-share.ensures
    c.requires.vectors
