use Rattle.std.proofs.Common.{refl}
use Rattle.a64_table.specs.Rows.{group_of, row_of}
use Rattle.a64_table.proofs.laws.rows_of_lines.Goals as goal

pub returns : goal.returns
unfolding row_of group_of
returns c = refl
