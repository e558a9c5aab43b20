use Rattle.std.proofs.Common.{arith}
use Rattle.sve_access.proofs.elements.Elements.is_active.Goals as goal

pub overflow_mul-bytes : goal.overflow_mul-bytes
overflow_mul-bytes c = let place = c.requires.within in let few = c.requires.few in rw c.bytes.ensures (omega (arith, place, few))
