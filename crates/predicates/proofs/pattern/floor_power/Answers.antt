use Rattle.std.proofs.Common.{arith}
use Rattle.predicates.proofs.Powers.{power_within, power_greatest}
use Rattle.predicates.proofs.pattern.floor_power.Goals as goal

pub returns-else-count-eq0-clause-within : goal.returns-else-count-eq0-clause-within
returns-else-count-eq0-clause-within c = power_within _ (omega arith) c.ranges.count.fits

pub returns-else-count-eq0-clause-greatest : goal.returns-else-count-eq0-clause-greatest
returns-else-count-eq0-clause-greatest c = λ some. power_greatest _ some c.ranges.count.fits
