use Rattle.sve_table.proofs.Ranged.{ranged}
use Rattle.sve_table.proofs.laws.in_range.Goals as goal

pub returns : goal.returns
returns c = ranged
