use Rattle.std.proofs.Common.{refl}
use Rattle.sve_table.specs.Rows.{vector_group_of, vector_row_of}
use Rattle.sve_table.proofs.laws.rows_of_lines.Goals as goal

pub returns : goal.returns
unfolding vector_row_of vector_group_of
returns c = refl
