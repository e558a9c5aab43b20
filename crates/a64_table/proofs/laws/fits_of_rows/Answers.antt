use Rattle.insn_forms.proofs.Lines.{fits-with}
use Rattle.a64_table.specs.Rows.{row_of}
use Rattle.a64_table.specs.Table.{scalar}
use Rattle.a64_table.proofs.Checks.{all_unequal}
use Rattle.a64_table.proofs.laws.fits_of_rows.Goals as goal

pub returns : goal.returns
unfolding row_of scalar
returns c = fits-with scalar all_unequal
