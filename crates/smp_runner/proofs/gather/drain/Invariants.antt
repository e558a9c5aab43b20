use Rattle.std.proofs.Common.{◌≡◌}
use Rattle.crossbeam_queue.specs.Passes.{view}
use Rattle.run_queue.specs.Queues.{IsPassFor, role_of, origin_of}
use Rattle.smp_runner.specs.Contexts.{contexts_in}
use Rattle.smp_runner.specs.Gathered.{Gathered}
use Rattle.smp_runner.proofs.gather.drain.Given as goal

abbrev pub invariant-loop : goal.invariant-loop
invariant-loop g l =
    IsPassFor l.queue.queue l.pass.pass
    × Gathered (view l.pass.pass) (contexts_in g.P.Port.tells l.all.items)
    × (role_of l.pass.pass ≡ role_of l.fn.pass.pass)
    × (origin_of l.pass.pass ≡ origin_of l.fn.pass.pass)
    × (g.P.Port.name l.port ≡ g.P.Port.name l.fn.port)
