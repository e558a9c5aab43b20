use Rattle.std.proofs.Common.{ap, ◌∙◌, sym}
use Rattle.smp_runner.proofs.Holding.{of_known, same_holder}
use Rattle.smp_runner.proofs.Cores.{absent, got_in, last_same, not_empty}
use Rattle.smp_runner.proofs.worker.fetch_once.Goals as goal

pub admit-requires-clause-config : goal.admit-requires-clause-config
admit-requires-clause-config g c = (of_known _ _ _ _ c.requires.of c.in-Some.ensures.got.known).0 ∙ sym c.requires.options

pub admit-requires-clause-absent : goal.admit-requires-clause-absent
admit-requires-clause-absent g c = absent g.P.Port.tells _ _ _ _ c.requires.holds c.in-Some.ensures.got.fresh

pub returns-clause-same : goal.returns-clause-same
returns-clause-same g c = same_holder _ _ _ c.in-Some.ensures.got

pub returns-clause-core : goal.returns-clause-core
returns-clause-core g c = last_same g.P.Port.tells _ _ _ c.in-Ok.ensures.admitted

pub returns-clause-holds : goal.returns-clause-holds
returns-clause-holds g c = got_in g.P.Port.tells _ _ _ _ _ _ c.requires.holds c.in-Some.ensures.got c.in-Ok.ensures.admitted

pub returns-clause-collected : goal.returns-clause-collected
returns-clause-collected g c = ap (λ s. s.done) c.in-Ok.ensures.admitted ∙ c.requires.collected

pub returns-clause-empty : goal.returns-clause-empty
returns-clause-empty g c none = absurd (not_empty g.P.Port.tells _ _ _ c.in-Ok.ensures.admitted none)
