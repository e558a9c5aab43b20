use Rattle.smemu_laws.proofs.OneEnding.{no_memory}
use Rattle.smemu_laws.proofs.laws.only_debug_writes_before_memory.Goals as goal

pub returns : goal.returns
returns c = no_memory
