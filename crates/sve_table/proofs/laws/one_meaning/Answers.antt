use Rattle.sve_table.proofs.OfVectors.{vector_meaning}
use Rattle.sve_table.proofs.laws.one_meaning.Goals as goal

pub returns : goal.returns
returns c = vector_meaning
