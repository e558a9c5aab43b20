use Rattle.std.proofs.Common.{rules, ◌≡◌, ap, ◌∙◌, sym, ◌+◌}
use Rattle.crossbeam_queue.specs.Passes.{view}
use Rattle.shared_table.specs.Seats.{table_name}
use Rattle.core_unit.specs.View.{core_state}
use Rattle.run_queue.specs.Queues.{IsPassFor, role_of, origin_of}
use Rattle.smp_runner.specs.Workers.{IsUnused}
use Rattle.smp_runner.proofs.Books.{all_more}
use Rattle.smp_runner.proofs.Numbering.{numbered_more}
use Rattle.smp_runner.proofs.workers.make_workers.Goals as goal

pub loop-number-preserved : goal.loop-number-preserved
loop-number-preserved c =
    let i = c.loop-number.invariant in
    let e = c.in_ok-worker.ensures in
    let w = c.in_ok-worker.worker in
    let more = c.push_reserved.ensures.items in (
      c.make_worker.ensures.queue,
      c.make_worker.ensures.first,
      e.given ∙ ap (λ k. k + 1) i.2,
      c.make_worker.ensures.origin ∙ i.3,
      c.make_worker.ensures.held ∙ i.4,
      search rules,
      search rules,
      all_more (λ x. IsPassFor c.args.queue.now.queue x.pass.pass) _ _ w i.7 e.own more,
      all_more (λ x. IsUnused c.args.config.now (table_name x.port.table.now) (view x.pass.pass) (core_state x.core) x.done.items)
          _ _ w i.8 e.unused more,
      all_more (λ x. origin_of x.pass.pass ≡ origin_of c.args.pass.now.pass) _ _ w i.9 (e.knows ∙ i.3) more,
      numbered_more (λ x. role_of x.pass.pass) _ _ w _ i.10 e.role (i.2 ∙ sym i.5) more,
    )
