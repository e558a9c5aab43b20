use Rattle.vector_runner.proofs.Vectors.{file_is, file_reads}
use Rattle.vector_runner.proofs.laws.one_file.Goals as goal

pub returns : goal.returns
returns c = λ vl svl bytes vectors. (file_is vl svl bytes vectors, file_reads vl svl bytes vectors)
