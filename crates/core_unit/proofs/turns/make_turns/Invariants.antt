use Rattle.std.proofs.Common.{◌-◌, ◌≡◌, ◌≤◌, false, None}
use Rattle.shared_region.specs.Tickets.{IsTicketOf, GivesEvents}
use Rattle.machine_step.specs.Machine.{IsSameBank}
use Rattle.kernel_contexts.specs.Context.{IsOn, owns, thread_of, made_by, stop_of, IsSameThread}
use Rattle.kernel_contexts.specs.Guest.{guest_on}
use Rattle.core_unit.specs.Need.{first_need_of}
use Rattle.core_unit.proofs.Runs.{HasRun}
use Rattle.core_unit.proofs.turns.make_turns.Given as goal

abbrev pub invariant-turns : goal.invariant-turns
invariant-turns g l = record {
  on : IsOn l.resident.context l.bank;
  apart : owns l.initial.bank (thread_of l.initial.resident.context) ≡ false → l.bank ≡ l.initial.bank;
  bank : IsSameBank l.initial.bank l.bank;
  same : IsSameThread l.initial.resident.context l.resident.context;
  few : l.turns ≤ l.k;
  runs : stop_of l.resident.context ≡ None;
  run : HasRun (guest_on l.initial.bank l.initial.resident.context) l.turns
      (guest_on l.bank l.resident.context);
  quiet : owns l.initial.bank (thread_of l.initial.resident.context) ≡ false
      → first_need_of (guest_on l.initial.bank l.initial.resident.context) (guest_on l.bank l.resident.context) l.turns ≡ None;
  ticket : IsTicketOf (thread_of l.resident.context) (g.P.Port.name l.port) (g.P.Port.tells l.resident.ticket);
  gives : GivesEvents g.P.Port.gives g.P.Port.name g.P.Port.tells (thread_of l.initial.resident.context)
      (made_by l.initial.resident.context l.resident.context) l.initial.port l.initial.resident.ticket l.port
      l.resident.ticket;
}

abbrev pub decreases-turns : goal.decreases-turns
decreases-turns g l = l.k - l.turns
