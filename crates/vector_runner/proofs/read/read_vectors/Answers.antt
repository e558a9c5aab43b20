use Rattle.vector_runner.proofs.Fitting.{answered_fit}
use Rattle.vector_runner.proofs.Vectors.{answered_few}
use Rattle.vector_runner.proofs.read.read_vectors.Goals as goal

pub returns-clause-fit : goal.returns-clause-fit
returns-clause-fit c = answered_fit c.args.vl c.args.svl _ c.read_lines.result c.read_lines.ensures

pub returns-clause-few : goal.returns-clause-few
returns-clause-few c = answered_few c.args.vl c.args.svl _ c.read_lines.result c.read_lines.ensures
