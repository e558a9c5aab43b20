use Rattle.std.proofs.Common.{◌≡◌, ◌-◌, ◌*◌, None}
use Rattle.kernel_contexts.specs.Loose.{loose_state, loose_config, loose_stop, IsSameLoose}
use Rattle.lone_runner.specs.Resumed.{HasLooseTicket, IsComing}
use Rattle.lone_runner.specs.Ticket.{whole_journal}
use Rattle.lone_runner.proofs.resume.resume_to.Given as goal

abbrev pub invariant-turns : goal.invariant-turns
invariant-turns l = record {
  coming : IsComing l.initial.loose l.initial.ticket.ahead l.count l.loose l.ticket;
  held : HasLooseTicket l.loose l.ticket;
  runs : loose_stop l.loose ≡ None;
  whole : whole_journal l.ticket ≡ whole_journal l.initial.ticket;
  same : IsSameLoose l.initial.loose l.loose;
}

abbrev pub decreases-turns : goal.decreases-turns
decreases-turns l = 128 * (loose_config l.loose).budget - (loose_state l.loose).turns
