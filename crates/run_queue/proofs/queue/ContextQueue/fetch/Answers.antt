use Rattle.run_queue.proofs.Moves.{takes, learns_moment, none_there}
use Rattle.run_queue.proofs.queue.ContextQueue.fetch.Goals as goal

pub pop_as-got-requires-clause-rule : goal.pop_as-got-requires-clause-rule
pop_as-got-requires-clause-rule g c = (takes _ _ _ c.args.pass.now.used, learns_moment _ _ _)

pub returns-clause-none : goal.returns-clause-none
returns-clause-none g c = none_there c.pop_as-got.result _ _ _ c.pop_as-got.ensures.rule
