use Rattle.std.proofs.Common.{◌∙◌}
use Rattle.predicates.specs.Loops.{while_predicate}
use Rattle.predicates.proofs.Loops.{same_predicate}
use Rattle.predicates.proofs.while_loops.predicate_while.Goals as goal

pub returns-clause-value : goal.returns-clause-value
unfolding while_predicate
returns-clause-value c = c.put_below.ensures ∙ same_predicate _ _ _ _ c.while_limit-limit.ensures
