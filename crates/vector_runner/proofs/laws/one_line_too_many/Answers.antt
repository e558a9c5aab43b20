use Rattle.vector_runner.proofs.Vectors.{past_most}
use Rattle.vector_runner.proofs.laws.one_line_too_many.Goals as goal

pub returns : goal.returns
returns c = past_most
