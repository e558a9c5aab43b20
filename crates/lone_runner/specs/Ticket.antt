-- The journal of a run in a ticket.
use Rattle.std.specs.Prelude.{◌++◌, List}
use Rattle.sm_types.specs.declared.shared_op.Event.{Event}
use Rattle.shared_region.specs.Ports.{ReplayEvents}

-- all events of the run: those that are answered, and those ahead
abbrev pub whole_journal : ReplayEvents → List Event
whole_journal ticket = ticket.answered ++ ticket.ahead
