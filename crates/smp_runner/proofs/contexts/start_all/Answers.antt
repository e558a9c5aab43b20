use Rattle.std.proofs.Common.{◌<◌, ◌≤◌, ap, ◌∙◌, refl, arith}
use Rattle.crossbeam_queue.specs.Passes.{view}
use Rattle.thread_lists.specs.Counts.{occurrences, without}
use Rattle.thread_lists.proofs.Sums.{range-once, once_out}
use Rattle.smp_runner.proofs.Books.{book_opens, given, rest_more}
use Rattle.smp_runner.proofs.contexts.start_all.Goals as goal

pub loop-thread-init : goal.loop-thread-init
loop-thread-init g c =
    let p = c.requires.pass in
    let n = c.args.config.now.threads in (
      c.requires.name,
      refl,
      book_opens _ c.requires.maker,
      c.requires.queue,
      record { role = ap (λ v. v.role) p; origin_of = ap (λ v. v.origin) p },
      λ t. let a = ap (λ v. occurrences t v.held) p in let b = range-once t n in omega (arith, a, b, once_out t 0 (omega arith)),
    )

pub loop-thread-preserved : goal.loop-thread-preserved
loop-thread-preserved g c =
    let i = c.loop-thread.invariant in
    let t = c.loop-thread.thread in
    let lt : t < c.args.config.now.threads = c.loop-thread-test.true in
    let few : c.args.config.now.threads ≤ 32 = c.args.config.now.threads_in_range.1 in
    let small : t < 32 = omega arith in
    let h = (view c.loop-thread.pass.pass).held in
    let p = c.offer.ensures.view in (
      c.split-ticket.ensures.name.0 ∙ i.0,
      c.split-ticket.ensures.name.0 ∙ i.1,
      given _ _ t i.2 small c.split-ticket.ensures.maker,
      c.offer.ensures.queue,
      record { role = ap (λ v. v.role) p ∙ i.4.role; origin_of = ap (λ v. v.origin) p ∙ i.4.origin_of },
      rest_more t c.args.config.now.threads _ _ i.5 lt (ap (λ v. v.held) p ∙ ap (λ k. without k h) c.in_ok-context.ensures.thread),
    )
