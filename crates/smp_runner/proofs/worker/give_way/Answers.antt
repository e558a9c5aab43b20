use Rattle.std.proofs.Common.{ap, sym}
use Rattle.smp_runner.proofs.Cores.{is_held_in, gives_in, first_same}
use Rattle.smp_runner.proofs.worker.give_way.Goals as goal

pub offer-requires-clause-holds : goal.offer-requires-clause-holds
offer-requires-clause-holds g c = (is_held_in g.P.Port.tells _ _ _ _ _ c.requires.holds c.in-Some.ensures.taken).0

pub offer-requires-clause-known : goal.offer-requires-clause-known
offer-requires-clause-known g c = (is_held_in g.P.Port.tells _ _ _ _ _ c.requires.holds c.in-Some.ensures.taken).1

pub returns-in-Some-clause-holds : goal.returns-in-Some-clause-holds
returns-in-Some-clause-holds g c = gives_in g.P.Port.tells _ _ _ _ _ _ c.requires.holds c.in-Some.ensures.taken c.offer.ensures.view

pub returns-in-Some-clause-core : goal.returns-in-Some-clause-core
returns-in-Some-clause-core g c = first_same g.P.Port.tells _ _ _ c.in-Some.ensures.taken

pub returns-in-Some-clause-done : goal.returns-in-Some-clause-done
returns-in-Some-clause-done g c = sym (ap (λ s. s.done) c.in-Some.ensures.taken)
