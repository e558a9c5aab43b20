use Rattle.std.proofs.Common.{◌≡◌, true, [], ◌∷◌, length, ap, ◌∙◌, arith}
use Rattle.std.proofs.lemmas.List.{length-append}
use Rattle.crossbeam_queue.specs.Passes.{view}
use Rattle.run_queue.specs.Queues.{IsPassFor, role_of, origin_of}
use Rattle.smp_runner.specs.Contexts.{HasEnded, contexts_in}
use Rattle.smp_runner.proofs.Numbering.{all_less, numbered_less, below_less}
use Rattle.smp_runner.proofs.gather.gather.Goals as goal

pub gather_one-requires-clause-ended : goal.gather_one-requires-clause-ended
gather_one-requires-clause-ended g c =
    (all_less (λ w. w.ended ≡ true → HasEnded (view w.pass.pass) (contexts_in g.P.Port.tells w.done.items)) _ _ c.in-Some.worker
    c.loop-worker.invariant.5 c.in-Some.ensures.items).1

pub loop-worker-preserved : goal.loop-worker-preserved
loop-worker-preserved g c =
    let i = c.loop-worker.invariant in
    let is = c.in-Some.ensures.items in
    let w = c.in-Some.worker in
    let e = c.in_ok-gather_one.ensures in
    let rest = c.pop.new.self.items in
    let n = ap length is ∙ length-append rest (w ∷ []) in
    let numbers = numbered_less (λ x. role_of x.pass.pass) _ rest w i.7 is in (
      e.queue,
      e.gathered,
      e.joined.origin ∙ i.2,
      below_less [] [] _ _ _ (length c.loop-worker.workers.items) (length rest) i.3 (omega (arith, n)) numbers.1 e.joined,
      (all_less (λ x. IsPassFor c.args.queue.now.queue x.pass.pass) _ rest w i.4 is).0,
      (all_less (λ x. x.ended ≡ true → HasEnded (view x.pass.pass) (contexts_in g.P.Port.tells x.done.items)) _ rest w i.5 is).0,
      (all_less (λ x. origin_of x.pass.pass ≡ origin_of c.args.pass.now.pass) _ rest w i.6 is).0,
      numbers.0,
    )
