use Rattle.std.proofs.Common.{◌≡◌, ◌≤◌, true, length, vec_capacity}
use Rattle.std.specs.Prelude.{All}
use Rattle.crossbeam_queue.specs.Passes.{view}
use Rattle.shared_table.specs.Seats.{table_name}
use Rattle.core_unit.specs.View.{core_state}
use Rattle.run_queue.specs.Passes.{is_first_pass, given_in}
use Rattle.run_queue.specs.Queues.{IsPassFor, role_of, origin_of, threads_held}
use Rattle.smp_runner.specs.Workers.{IsUnused, AreNumbered}
use Rattle.smp_runner.proofs.workers.make_workers.Given as goal

abbrev pub invariant-loop-number : goal.invariant-loop-number
invariant-loop-number l =
    IsPassFor l.queue.queue l.pass.pass
    × (is_first_pass (role_of l.pass.pass) ≡ true)
    × (length (given_in (role_of l.pass.pass)) ≡ l.number)
    × (origin_of l.pass.pass ≡ origin_of l.fn.pass.pass)
    × (threads_held l.pass.pass ≡ threads_held l.fn.pass.pass)
    × (length l.workers.items ≡ l.number)
    × (l.config.cores ≤ vec_capacity l.workers)
    × All (λ w. IsPassFor l.queue.queue w.pass.pass) l.workers.items
    × All (λ w. IsUnused l.config (table_name w.port.table.now) (view w.pass.pass) (core_state w.core) w.done.items) l.workers.items
    × All (λ w. origin_of w.pass.pass ≡ origin_of l.fn.pass.pass) l.workers.items
    × AreNumbered (λ w. role_of w.pass.pass) l.workers.items
