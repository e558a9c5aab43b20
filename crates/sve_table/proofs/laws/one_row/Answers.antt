use Rattle.sve_table.proofs.Checks.{one_row}
use Rattle.sve_table.proofs.laws.one_row.Goals as goal

pub returns : goal.returns
returns c = one_row
