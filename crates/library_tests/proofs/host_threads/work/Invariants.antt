use Rattle.std.proofs.Common.{◌≡◌}
use Rattle.shared_region.specs.Tickets.{IsTicketOf}
use Rattle.shared_table.specs.Seats.{table_name, ticket_of}
use Rattle.library_tests.proofs.host_threads.work.Given as goal

abbrev pub invariant-loop-i : goal.invariant-loop-i
invariant-loop-i l =
    IsTicketOf l.thread (table_name l.port.table.now) (ticket_of l.seat)
    × (table_name l.port.table.now ≡ table_name l.fn.table)
