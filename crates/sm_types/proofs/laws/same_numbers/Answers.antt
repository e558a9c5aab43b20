use Rattle.sm_types.proofs.Options.{same_numbers}
use Rattle.sm_types.proofs.laws.same_numbers.Goals as goal

pub returns : goal.returns
returns c a b e = same_numbers a b e
