use Rattle.world_core.proofs.Rounds.{serial_are_rounds, rounds_are_serial, rounds_end}
use Rattle.world_core.proofs.laws.serial_events_are_rounds.Goals as goal

pub returns-clause-rounds : goal.returns-clause-rounds
returns-clause-rounds c = λ w events last h. serial_are_rounds w events last h

pub returns-clause-serial : goal.returns-clause-serial
returns-clause-serial c = λ w events last h. rounds_are_serial w events last h

pub returns-clause-done : goal.returns-clause-done
returns-clause-done c = λ program config events last one h. rounds_end program config events last one h
