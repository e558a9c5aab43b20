use Rattle.std.proofs.Common.{map, ap, ◌∙◌, arith}
use Rattle.std.proofs.lemmas.List.{length-map, map_push}
use Rattle.run_queue.specs.Ticketed.{ticketed}
use Rattle.smp_runner.proofs.Cores.{room_in, collects_in, done_same, then_same}
use Rattle.smp_runner.proofs.worker.collect.Goals as goal

pub push_reserved-requires : goal.push_reserved-requires
push_reserved-requires g c =
    let i = c.loop-whole.invariant in
    let r = room_in g.P.Port.tells _ _ _ _ _ i.0 c.in-Some.ensures.taken in
    let n = length-map c.loop-whole.done.items (λ w. ticketed w.context (g.P.Port.tells w.ticket)) in
    let b = i.1 in
    let e = c.loop-whole.done.ok in
    omega (arith, r, n, b, e)

pub loop-whole-preserved : goal.loop-whole-preserved
loop-whole-preserved g c =
    let i = c.loop-whole.invariant in
    let t = c.in-Some.ensures.taken in
    let b = i.1 in
    let k = c.push_reserved.ensures.capacity in (
      collects_in g.P.Port.tells _ _ _ _ _ _ i.0 t
          (ap (map (λ w. ticketed w.context (g.P.Port.tells w.ticket))) c.push_reserved.ensures.items
          ∙ map_push (λ w. ticketed w.context (g.P.Port.tells w.ticket)) c.loop-whole.done.items c.in-Some.whole),
      omega (arith, b, k),
      k ∙ i.2,
      then_same _ _ _ i.3 (done_same g.P.Port.tells _ _ _ t),
    )
