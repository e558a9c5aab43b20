use Rattle.std.proofs.Common.{◌≡◌, ◌≤◌, [], vec_capacity}
use Rattle.crossbeam_queue.specs.Passes.{view}
use Rattle.core_unit.specs.View.{core_state}
use Rattle.run_queue.specs.Passes.{known_threads}
use Rattle.run_queue.specs.Queues.{IsPassFor}
use Rattle.smp_runner.specs.Contexts.{HoldsWith, IsSameCore, IsSameHolder, contexts_in}
use Rattle.smp_runner.proofs.worker.work.Given as goal

abbrev pub invariant-loop : goal.invariant-loop
invariant-loop g l =
    IsPassFor l.queue.queue l.pass.pass
    × IsSameHolder (view l.fn.pass.pass) (view l.pass.pass)
    × HoldsWith g.P.Port.tells (view l.pass.pass) (core_state l.core) (contexts_in g.P.Port.tells l.done.items)
    × ((core_state l.core).done ≡ [])
    × (known_threads (view l.pass.pass).origin ≤ vec_capacity l.done)
    × IsSameCore (core_state l.fn.core) (core_state l.core)
    × (g.P.Port.name l.port ≡ g.P.Port.name l.fn.port)
