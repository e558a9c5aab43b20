use Rattle.smemu_laws.proofs.Beginnings.{has_begun}
use Rattle.smemu_laws.proofs.laws.begins_as_help_says.Goals as goal

pub returns : goal.returns
returns c = has_begun
