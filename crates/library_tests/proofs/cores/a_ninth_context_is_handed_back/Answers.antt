use Rattle.std.proofs.Common.{arith}
use Rattle.library_tests.proofs.cores.a_ninth_context_is_handed_back.Goals as goal

pub admit-requires-clause-absent : goal.admit-requires-clause-absent
admit-requires-clause-absent g c = rw c.unstarted-ninth.ensures.thread (c.core_of-core.ensures.absent 8 (omega arith))
