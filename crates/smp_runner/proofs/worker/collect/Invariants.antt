use Rattle.std.proofs.Common.{◌≡◌, ◌≤◌, length, vec_capacity}
use Rattle.crossbeam_queue.specs.Passes.{view}
use Rattle.core_unit.specs.View.{core_state}
use Rattle.run_queue.specs.Passes.{known_threads}
use Rattle.smp_runner.specs.Contexts.{HoldsWith, IsSameCore, contexts_in}
use Rattle.smp_runner.proofs.worker.collect.Given as goal

abbrev pub invariant-loop-whole : goal.invariant-loop-whole
invariant-loop-whole g l =
    HoldsWith g.P.Port.tells (view l.pass.pass) (core_state l.core) (contexts_in g.P.Port.tells l.done.items)
    × (known_threads (view l.pass.pass).origin ≤ vec_capacity l.done)
    × (vec_capacity l.done ≡ vec_capacity l.fn.done)
    × IsSameCore (core_state l.fn.core) (core_state l.core)

abbrev pub decreases-loop-whole : goal.decreases-loop-whole
decreases-loop-whole g l = length (core_state l.core).done
