use Rattle.run_laws.proofs.Rests.{left_after, used_few}
use Rattle.run_laws.proofs.laws.events_come_in_order.Goals as goal

pub returns-clause-used : goal.returns-clause-used
returns-clause-used c program config thread journal turns from used left at =
    used_few program config thread journal turns from used left at

pub returns-clause-left : goal.returns-clause-left
returns-clause-left c program config thread journal turns from used left at =
    left_after program config thread journal turns from used left at
