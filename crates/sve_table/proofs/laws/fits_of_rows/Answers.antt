use Rattle.insn_forms.proofs.Lines.{fits-with}
use Rattle.sve_table.specs.Rows.{vector_row_of}
use Rattle.sve_table.specs.Table.{vector}
use Rattle.sve_table.proofs.Checks.{all_unequal}
use Rattle.sve_table.proofs.laws.fits_of_rows.Goals as goal

pub returns : goal.returns
unfolding vector_row_of vector
returns c = fits-with vector all_unequal
