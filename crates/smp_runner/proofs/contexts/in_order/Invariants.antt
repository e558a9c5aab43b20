use Rattle.std.proofs.Common.{◌≡◌, ◌≤◌, ◌++◌, ◌-◌, map, length, vec_capacity}
use Rattle.std.specs.Prelude.{All}
use Rattle.std.specs.List.{range_with_len}
use Rattle.kernel_contexts.specs.Context.{thread_of, journal_of}
use Rattle.shared_table.specs.declared.view.SeatView.TheVariants.{Maker}
use Rattle.shared_table.specs.Seats.{view_of, seat_name, table_name}
use Rattle.smp_runner.specs.Books.{book_at}
use Rattle.smp_runner.specs.Ended.{IsAtItsStop}
use Rattle.smp_runner.proofs.contexts.in_order.Given as goal

abbrev pub invariant-loop-whole : goal.invariant-loop-whole
invariant-loop-whole l = record {
  name : seat_name l.maker ≡ table_name l.table;
  same : seat_name l.maker ≡ seat_name l.fn.maker;
  book : view_of l.maker
      ≡ Maker (book_at (map (λ c. journal_of c) l.contexts.items) (l.config.threads - length l.contexts.items) l.config.threads);
  order : map (λ c. thread_of c) (l.contexts.items ++ map (λ w. w.context) l.whole-iterator.rest.items)
      ≡ range_with_len 0 l.config.threads;
  ended : All (IsAtItsStop l.image l.config) (l.contexts.items ++ map (λ w. w.context) l.whole-iterator.rest.items);
  named : All (λ w. seat_name w.ticket ≡ table_name l.table) l.whole-iterator.rest.items;
  room : l.config.threads ≤ vec_capacity l.contexts;
}
