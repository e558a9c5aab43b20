use Rattle.a64_table.proofs.Checks.{one_row}
use Rattle.a64_table.proofs.laws.one_row.Goals as goal

pub returns : goal.returns
returns c = one_row
