use Rattle.a64_encode.proofs.Either.{at_most_one}
use Rattle.a64_encode.proofs.laws.one_row_of_both.Goals as goal

pub returns : goal.returns
returns c = at_most_one
