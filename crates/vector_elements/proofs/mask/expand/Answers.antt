use Rattle.std.proofs.Common.{arith}
use Rattle.vector_elements.proofs.Masks.{mask_next}
use Rattle.vector_elements.proofs.mask.expand.Goals as goal

pub loop-i-init : goal.loop-i-init
loop-i-init c = λ j none. absurd (omega arith)

pub loop-i-preserved : goal.loop-i-preserved
loop-i-preserved c = mask_next _ _ _ _ c.loop-i.invariant c.put_spread.ensures.written c.put_spread.ensures.kept

pub returns : goal.returns
returns c = λ j below. c.loop-i.invariant j (omega arith)
