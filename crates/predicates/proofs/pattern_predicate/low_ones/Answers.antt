use Rattle.predicates.proofs.Below.{low_bits}
use Rattle.predicates.proofs.pattern_predicate.low_ones.Goals as goal

pub returns : goal.returns
returns c = λ k below. low_bits c.args.count k c.requires below
