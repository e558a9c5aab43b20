use Rattle.std.proofs.Common.{arith}
use borrow.Author.Tests.{eqb-true}
use Rattle.machine_step.proofs.Places.{place_within, place_aligned}
use Rattle.machine_step.proofs.page_run.is_word_place.Goals as goal

pub returns-clause-within : goal.returns-clause-within
returns-clause-within c is = place_within c.args.at (omega arith) (eqb-true _ _ is)

pub returns-clause-aligned : goal.returns-clause-aligned
returns-clause-aligned c is = place_aligned c.args.at (eqb-true _ _ is)
