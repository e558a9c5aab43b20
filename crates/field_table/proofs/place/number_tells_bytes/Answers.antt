use Rattle.std.proofs.Common.{rules}
use Rattle.field_table.proofs.Numbers.{number_tells}
use Rattle.field_table.proofs.place.number_tells_bytes.Goals as goal

pub returns : goal.returns
returns c = number_tells c.args.bytes.now (λ k lt. search (rules, c.type_inv.bytes k))
