use Rattle.std.proofs.Common.{◌≡◌, ◌-◌, ◌*◌}
use Rattle.kernel_contexts.specs.Context.{config_of, state_of}
use Rattle.run_queue.specs.Ticketed.{ticketed}
use Rattle.smp_runner.specs.Contexts.{IsSameTicketed}
use Rattle.smp_runner.proofs.gather.run_to_stop.Given as goal

abbrev pub decreases-turns : goal.decreases-turns
decreases-turns g l = 64 * (config_of l.whole.context).budget - (state_of l.whole.context).turns

abbrev pub invariant-turns : goal.invariant-turns
invariant-turns g l =
    (g.P.Port.name l.port ≡ g.P.Port.name l.fn.port)
    × IsSameTicketed (ticketed l.fn.whole.context (g.P.Port.tells l.fn.whole.ticket))
    (ticketed l.whole.context (g.P.Port.tells l.whole.ticket))
