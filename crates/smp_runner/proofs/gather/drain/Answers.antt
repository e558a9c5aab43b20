use Rattle.std.proofs.Common.{rules, subst, sym, ap, ◌∙◌}
use Rattle.run_queue.specs.Ticketed.{ticketed}
use Rattle.thread_lists.specs.Counts.{once_below}
use Rattle.run_queue.specs.Passes.{given_in, known_threads, AreAllBack}
use Rattle.run_queue.proofs.Moves.{rest_when_empty}
use Rattle.smp_runner.proofs.Gathering.{one_more_in, each_once}
use Rattle.smp_runner.proofs.gather.drain.Goals as goal

pub returns-in_default-clause-once : goal.returns-in_default-clause-once
returns-in_default-clause-once g c =
    let i = c.loop.invariant in
    rw c.reserve.ensures.items (λ t.
    each_once _ _ i.1 (subst (λ r. AreAllBack (given_in r)) (sym i.2) c.requires.back) (rest_when_empty _ c.in_default.ensures.none) t
    ∙ ap (λ o. once_below t (known_threads o)) i.3)

pub loop-preserved : goal.loop-preserved
loop-preserved g c =
    let i = c.loop.invariant in
    let f = c.in-Some-fetch.ensures.got in (
      c.fetch.ensures.queue,
      one_more_in (λ w. ticketed w.context (g.P.Port.tells w.ticket)) _ _ c.loop.all.items _ _ c.run_to_stop.new.whole i.1 f
          c.run_to_stop.ensures.same c.in_ok-run_to_stop.ensures.stopped (search rules),
      ap (λ v. v.role) f.view ∙ i.2,
      ap (λ v. v.origin) f.view ∙ i.3,
      c.run_to_stop.ensures.name ∙ i.4,
    )
