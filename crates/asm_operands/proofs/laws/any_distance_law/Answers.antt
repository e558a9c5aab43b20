use Rattle.asm_operands.proofs.AnyDistance.{resolved-means}
use Rattle.asm_operands.proofs.laws.any_distance_law.Goals as goal

pub returns : goal.returns
returns c = resolved-means
