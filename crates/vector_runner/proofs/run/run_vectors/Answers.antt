use Rattle.vector_runner.proofs.Shares.{run_joined}
use Rattle.vector_runner.proofs.run.run_vectors.Goals as goal

pub returns-in-Ok : goal.returns-in-Ok
returns-in-Ok g c =
    run_joined c.args.vl c.args.svl c.args.vectors.now c.share_size-size.result c.args.workers c.in-Ok.shares.items c.join_lines.result
    c.in-Ok.ensures.count c.share_size-size.ensures.all c.in-Ok.ensures.each c.join_lines.ensures.lines c.join_lines.ensures.answered
