use Rattle.std.proofs.Common.{rules, map, refl, ap, ◌∙◌}
use Rattle.core_unit.specs.View.{core_state}
use Rattle.run_queue.specs.Ticketed.{ticketed}
use Rattle.smp_runner.proofs.Holding.{still_of, threads_known}
use Rattle.smp_runner.proofs.Cores.{belongs, starts_in}
use Rattle.smp_runner.proofs.worker.work.Goals as goal

pub loop-init : goal.loop-init
loop-init g c =
    let u = c.requires.unused in (
      c.requires.queue,
      record { role = refl; origin = refl },
      starts_in g.P.Port.tells _ (core_state c.args.core.now) _ u.holds u.residents u.stopped
          (ap (map (λ w. ticketed w.context (g.P.Port.tells w.ticket))) (c.reserve.ensures.items ∙ u.collected)),
      u.stopped,
      rw (threads_known _ _ _ u.of) (search rules),
      record { number = refl; config = refl },
      refl,
    )

pub fetch_once-requires-clause-of : goal.fetch_once-requires-clause-of
fetch_once-requires-clause-of g c =
    still_of _ _ _ _ _ c.requires.unused.of c.loop.invariant.1.origin c.loop.invariant.6

pub fetch_once-requires-clause-options : goal.fetch_once-requires-clause-options
fetch_once-requires-clause-options g c = c.loop.invariant.5.config ∙ c.requires.unused.options

pub run_slice-requires-clause-belong : goal.run_slice-requires-clause-belong
run_slice-requires-clause-belong g c =
    belongs g.P.Port.tells _ _ _ _ _ c.fetch_once.ensures.holds
    (still_of _ _ _ _ _ c.requires.unused.of (c.fetch_once.ensures.same.origin ∙ c.loop.invariant.1.origin) c.loop.invariant.6)

pub returns-in-Memory-clause-holds : goal.returns-in-Memory-clause-holds
returns-in-Memory-clause-holds g c = c.run_slice.ensures.holds _ _ c.fetch_once.ensures.holds

pub collect-requires : goal.collect-requires
collect-requires g c = record { holds = c.run_slice.ensures.holds _ _ c.fetch_once.ensures.holds; room = search rules }
