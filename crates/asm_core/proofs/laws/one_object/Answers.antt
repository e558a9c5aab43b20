use Rattle.asm_core.proofs.OneObject.{one_object}
use Rattle.asm_core.proofs.laws.one_object.Goals as goal

pub returns : goal.returns
returns c = one_object
