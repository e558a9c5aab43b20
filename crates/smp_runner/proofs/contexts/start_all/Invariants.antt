use Rattle.std.proofs.Common.{◌≡◌, ℕ, ◌+◌, []}
use Rattle.crossbeam_queue.specs.Passes.{view}
use Rattle.shared_table.specs.declared.view.SeatView.TheVariants.{Maker}
use Rattle.shared_table.specs.Seats.{view_of, seat_name, table_name}
use Rattle.run_queue.specs.Ticketed.{origin_from}
use Rattle.thread_lists.specs.Counts.{occurrences, once_below}
use Rattle.run_queue.specs.Queues.{IsPassFor, threads_held}
use Rattle.smp_runner.specs.Books.{book_at, IsWithoutSplits}
use Rattle.smp_runner.proofs.contexts.start_all.Given as goal

abbrev pub invariant-loop-thread : goal.invariant-loop-thread
invariant-loop-thread g l =
    (seat_name l.maker ≡ table_name l.table)
    × (seat_name l.maker ≡ seat_name l.fn.maker)
    × (view_of l.maker ≡ Maker (book_at [] l.thread l.thread))
    × IsPassFor l.queue.queue l.pass.pass
    × IsWithoutSplits (origin_from l.image l.config (table_name l.table)) (view l.pass.pass)
    × ((t : ℕ) → occurrences t (threads_held l.pass.pass) + once_below t l.thread ≡ once_below t l.config.threads)
