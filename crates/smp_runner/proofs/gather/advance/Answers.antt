use Rattle.std.proofs.Common.{ap}
use Rattle.run_queue.specs.Ticketed.{origin_from}
use Rattle.smp_runner.proofs.Ends.{stops_at, goes, agrees, at_home}
use Rattle.smp_runner.proofs.gather.advance.Goals as goal

pub returns-clause-same : goal.returns-clause-same
returns-clause-same g c =
    let same = c.advance.ensures.same in
    let name = ap (λ t. t.name) c.advance.ensures.gives.ticket in
    record { thread = same.thread; origin = λ i. origin_from (same.image i) (same.config i) (name i) }

pub returns-clause-stopped : goal.returns-clause-stopped
returns-clause-stopped g c s is = stops_at _ _ c.args.whole.now.context c.advance.new.self _ s c.advance.ensures.turn is

pub returns-clause-ends : goal.returns-clause-ends
returns-clause-ends g c is = goes _ (λ op. c.requires.goes _ _ op) c.args.whole.now.context c.advance.new.self _ _ c.advance.ensures.turn is

pub returns-clause-bank : goal.returns-clause-bank
returns-clause-bank g c is = at_home _ (λ op. c.requires.goes _ _ op) c.args.whole.now.context c.advance.new.self _ _ c.advance.ensures.turn
    is

pub returns-clause-strays : goal.returns-clause-strays
returns-clause-strays g c is = agrees _ (λ op. c.requires.goes _ _ op) c.args.whole.now.context c.advance.new.self _ _
    c.advance.ensures.turn is
