use Rattle.reach_laws.proofs.laws.reached_deliveries_are_plain.Goals as goal

pub returns : goal.returns
returns c = λ program config thread journal turns from to h is p before after due.
    c.reach_is_plain.ensures.later program config thread journal turns before.0 from.state p.state from.used p.used from.left p.left h is
    before.1
