use Rattle.smemu_laws.proofs.OneEnding.{front_is_written}
use Rattle.smemu_laws.proofs.laws.a_front_before_memory.Goals as goal

pub returns : goal.returns
returns c = front_is_written
