use Rattle.std.proofs.Common.{ap}
use Rattle.smp_runner.proofs.Cores.{ran, ran_same, never_ends, never_differs}
use Rattle.smp_runner.proofs.worker.run_slice.Goals as goal

pub returns-clause-holds : goal.returns-clause-holds
returns-clause-holds g c v done h =
    ran g.P.Port.tells _ _ _ (λ n es t u given. ap (λ x. x.name) given.ticket) v _ _ _ done h c.run.ensures.run

pub returns-clause-core : goal.returns-clause-core
returns-clause-core g c = ran_same g.P.Port.tells _ _ _ (λ n es t u given. ap (λ x. x.name) given.ticket) _ _ _ c.run.ensures.run

pub returns-clause-ends : goal.returns-clause-ends
returns-clause-ends g c is = never_ends _ _ _ (λ t op. c.requires.goes _ t op) _ _ _ c.run.ensures.run is

pub returns-clause-differs : goal.returns-clause-differs
returns-clause-differs g c is = never_differs _ _ _ (λ t op. c.requires.goes _ t op) _ _ _ c.run.ensures.run is
