use Rattle.smemu_laws.proofs.OneEnding.{one_answer}
use Rattle.smemu_laws.proofs.laws.one_answer.Goals as goal

pub returns : goal.returns
returns c = one_answer
