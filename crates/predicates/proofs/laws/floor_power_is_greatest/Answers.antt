use Rattle.predicates.proofs.Powers.{floor_power-is}
use Rattle.predicates.proofs.laws.floor_power_is_greatest.Goals as goal

pub returns : goal.returns
returns c = floor_power-is
