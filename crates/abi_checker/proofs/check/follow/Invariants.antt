use Rattle.std.proofs.Common.{◌≡◌, ◌-◌, ◌*◌, None}
use Rattle.kernel_contexts.specs.Context.{state_of, config_of, image_of, thread_of, stop_of, IsSameThread}
use Rattle.lone_runner.specs.Replayed.{HasTicket}
use Rattle.abi_checker.specs.Following.{IsFollowed}
use Rattle.abi_checker.proofs.check.follow.Given as goal

abbrev pub invariant-turns : goal.invariant-turns
invariant-turns l = record {
  followed : IsFollowed (image_of l.initial.context) (config_of l.initial.context) (thread_of l.initial.context) l.initial.ticket.ahead
      l.count l.context l.ticket l.watch l.found;
  held : HasTicket l.context l.ticket;
  runs : stop_of l.context ≡ None;
  same : IsSameThread l.initial.context l.context;
}

abbrev pub decreases-turns : goal.decreases-turns
decreases-turns l = 64 * (config_of l.context).budget - (state_of l.context).turns
