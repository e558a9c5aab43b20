use Rattle.a64_encode.proofs.Either.{either}
use Rattle.a64_encode.proofs.laws.means_either.Goals as goal

pub returns : goal.returns
returns c = either
