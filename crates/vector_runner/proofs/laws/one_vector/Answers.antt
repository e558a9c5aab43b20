use Rattle.vector_runner.proofs.Vectors.{line_is, line_reads, same_vector}
use Rattle.vector_runner.proofs.laws.one_vector.Goals as goal

pub returns : goal.returns
returns c = record {
  read = λ vl svl line v. (line_is vl svl line v, line_reads vl svl line v);
  alone = same_vector;
}
