use Rattle.std.proofs.Common.{◌≡◌, true, length}
use Rattle.std.specs.Prelude.{All}
use Rattle.crossbeam_queue.specs.Passes.{view}
use Rattle.run_queue.specs.Passes.{given_in}
use Rattle.run_queue.specs.Queues.{IsPassFor, role_of, origin_of}
use Rattle.smp_runner.specs.Contexts.{HasEnded, contexts_in}
use Rattle.smp_runner.specs.Gathered.{Gathered, AreOutBelow}
use Rattle.smp_runner.specs.Workers.{AreNumbered}
use Rattle.smp_runner.proofs.gather.gather.Given as goal

abbrev pub invariant-loop-worker : goal.invariant-loop-worker
invariant-loop-worker g l =
    IsPassFor l.queue.queue l.pass.pass
    × Gathered (view l.pass.pass) (contexts_in g.P.Port.tells l.all.items)
    × (origin_of l.pass.pass ≡ origin_of l.fn.pass.pass)
    × AreOutBelow (given_in (role_of l.pass.pass)) (length l.workers.items)
    × All (λ w. IsPassFor l.queue.queue w.pass.pass) l.workers.items
    × All (λ w. w.ended ≡ true → HasEnded (view w.pass.pass) (contexts_in g.P.Port.tells w.done.items)) l.workers.items
    × All (λ w. origin_of w.pass.pass ≡ origin_of l.fn.pass.pass) l.workers.items
    × AreNumbered (λ w. role_of w.pass.pass) l.workers.items

abbrev pub decreases-loop-worker : goal.decreases-loop-worker
decreases-loop-worker g l = length l.workers.items
