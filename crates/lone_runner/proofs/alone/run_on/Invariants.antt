use Rattle.std.proofs.Common.{◌≡◌, ◌-◌, ◌*◌, ◌++◌, None}
use Rattle.kernel_contexts.specs.Context.{state_of, config_of, image_of, thread_of, stop_of, journal_of, IsSameThread}
use Rattle.lone_runner.specs.Replayed.{HasTicket}
use Rattle.lone_runner.specs.Way.{IsBefore}
use Rattle.lone_runner.proofs.alone.run_on.Given as goal

abbrev pub invariant-turns : goal.invariant-turns
invariant-turns l = record {
  before : IsBefore (image_of l.initial.context) (config_of l.initial.context) (thread_of l.initial.context)
      (journal_of l.initial.context ++ l.initial.ticket.ahead) l.count l.context l.ticket;
  held : HasTicket l.context l.ticket;
  runs : stop_of l.context ≡ None;
  journal : journal_of l.context ++ l.ticket.ahead ≡ journal_of l.initial.context ++ l.initial.ticket.ahead;
  same : IsSameThread l.initial.context l.context;
}

abbrev pub decreases-turns : goal.decreases-turns
decreases-turns l = 64 * (config_of l.context).budget - (state_of l.context).turns
