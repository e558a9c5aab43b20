use Rattle.asm_operands.proofs.AliasNumbers.{halfword, inverted, mask, shift}
use Rattle.asm_operands.proofs.Moves.{moves}
use Rattle.asm_operands.proofs.laws.alias_law.Goals as goal

pub returns-clause-halfword : goal.returns-clause-halfword
returns-clause-halfword c = halfword

pub returns-clause-inverted : goal.returns-clause-inverted
returns-clause-inverted c = inverted

pub returns-clause-mask : goal.returns-clause-mask
returns-clause-mask c = mask

pub returns-clause-shift : goal.returns-clause-shift
returns-clause-shift c = shift

pub returns-clause-order : goal.returns-clause-order
returns-clause-order c = moves
