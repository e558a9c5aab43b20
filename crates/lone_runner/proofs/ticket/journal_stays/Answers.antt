use Rattle.shared_region.proofs.Chains.{replay_ahead, replay_answered}
use Rattle.lone_runner.proofs.ticket.journal_stays.Goals as goal

pub returns-clause-ahead : goal.returns-clause-ahead
returns-clause-ahead c = replay_ahead

pub returns-clause-answered : goal.returns-clause-answered
returns-clause-answered c = replay_answered
