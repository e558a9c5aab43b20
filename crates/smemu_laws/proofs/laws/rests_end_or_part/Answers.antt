use Rattle.smemu_laws.proofs.GoesOn.{rest_ends}
use Rattle.smemu_laws.proofs.laws.rests_end_or_part.Goals as goal

pub returns : goal.returns
returns c file report checkpoint rest none = rest_ends file report checkpoint rest none
