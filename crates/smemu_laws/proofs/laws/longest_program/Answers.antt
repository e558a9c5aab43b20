use Rattle.smemu_laws.proofs.Longest.{longest}
use Rattle.smemu_laws.proofs.laws.longest_program.Goals as goal

pub returns : goal.returns
returns c = longest
