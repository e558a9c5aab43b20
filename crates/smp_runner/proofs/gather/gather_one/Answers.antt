use Rattle.std.proofs.Common.{rules}
use Rattle.run_queue.specs.Ticketed.{ticketed}
use Rattle.smp_runner.proofs.Gathering.{more_in}
use Rattle.smp_runner.proofs.gather.gather_one.Goals as goal

pub returns-clause-gathered : goal.returns-clause-gathered
returns-clause-gathered g c =
    more_in (λ w. ticketed w.context (g.P.Port.tells w.ticket)) _ _ _ _ _ c.args.worker.done.items c.requires.gathered
    c.requires.knows (c.requires.ended c.if-not-ended.false) c.join_pass.ensures.view (search rules)
