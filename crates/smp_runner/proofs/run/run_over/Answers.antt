use Rattle.std.proofs.Common.{◌≡◌, get_or, ap, ◌∙◌, sym}
use Rattle.std.specs.Prelude.{Some}
use Rattle.shared_table.specs.Seats.{table_name, ticket_of}
use Rattle.run_queue.specs.declared.origin.Origin.{Origin}
use Rattle.run_queue.specs.Ticketed.{ticketed, origin_from}
use Rattle.run_queue.specs.Passes.{known_threads}
use Rattle.run_queue.specs.Queues.{origin_of}
use Rattle.smp_runner.proofs.Whole.{once_each, origins, all_ended}
use Rattle.smp_runner.proofs.run.run_over.Goals as goal

pub gather-requires-clause-knows : goal.gather-requires-clause-knows
gather-requires-clause-knows g c =
    let w = c.in_ok-workers.ensures in
    λ k d lt. c.run_workers-workers.ensures.knows _ w.knows k d lt ∙ sym w.origin

pub in_order-requires-clause-once : goal.in_order-requires-clause-once
in_order-requires-clause-once g c =
    let o = origin_from c.args.image.now c.args.config.now (table_name c.args.table.now) in
    let known : origin_of c.gather.new.pass.pass ≡ Some o =
    c.in_ok-gather.ensures.origin ∙ c.in_ok-workers.ensures.origin ∙ c.in_ok-start_all.ensures.pass.origin_of in
    once_each (λ w. ticketed w.context (ticket_of w.ticket)) c.drain.new.all.items (origin_of c.gather.new.pass.pass)
    c.args.config.now.threads (ap known_threads known) c.in_ok-drain.ensures.once

pub in_order-requires-clause-named : goal.in_order-requires-clause-named
in_order-requires-clause-named g c =
    let o = origin_from c.args.image.now c.args.config.now (table_name c.args.table.now) in
    let known : origin_of c.drain.new.pass.pass ≡ Some o =
    c.drain.ensures.origin ∙ c.in_ok-gather.ensures.origin ∙ c.in_ok-workers.ensures.origin
    ∙ c.in_ok-start_all.ensures.pass.origin_of in
    let all = origins (λ w. ticketed w.context (ticket_of w.ticket)) c.drain.new.all.items _ o known
    c.in_ok-drain.ensures.gathered.ended.all_of in
    λ k d lt. ap (λ (y : Origin). y.name) (all k d lt)

pub in_order-requires-clause-ended : goal.in_order-requires-clause-ended
in_order-requires-clause-ended g c =
    let o = origin_from c.args.image.now c.args.config.now (table_name c.args.table.now) in
    let known : origin_of c.drain.new.pass.pass ≡ Some o =
    c.drain.ensures.origin ∙ c.in_ok-gather.ensures.origin ∙ c.in_ok-workers.ensures.origin
    ∙ c.in_ok-start_all.ensures.pass.origin_of in
    let all = origins (λ w. ticketed w.context (ticket_of w.ticket)) c.drain.new.all.items _ o known
    c.in_ok-drain.ensures.gathered.ended.all_of in
    let stopped = all_ended (λ w. ticketed w.context (ticket_of w.ticket)) c.drain.new.all.items
    c.in_ok-drain.ensures.gathered.ended.ended in
    λ k d lt. record {
      image_is = ap (λ (y : Origin). y.image) (all k d lt);
      options = ap (λ (y : Origin). y.config) (all k d lt);
      home = (get_or c.drain.new.all.items k d).home;
      stopped = stopped k d lt;
      run = c.contexts_are_runs.ensures (get_or c.drain.new.all.items k d).context (get_or c.drain.new.all.items k d).home;
    }
