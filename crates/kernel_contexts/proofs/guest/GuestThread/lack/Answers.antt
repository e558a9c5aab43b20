use Rattle.kernel_contexts.proofs.Apart.{lacks_so, lacks_memory}
use Rattle.kernel_contexts.proofs.guest.GuestThread.lack.Goals as goal

pub returns-then-wants_bank-clause-turn : goal.returns-then-wants_bank-clause-turn
returns-then-wants_bank-clause-turn c v = lacks_so _ _ (c.wants_bank.ensures.needs v) c.if-wants_bank.true

pub returns-clause-turn : goal.returns-clause-turn
returns-clause-turn c v = lacks_memory _ _ (c.wants_bank.ensures.needs v) c.if-wants_bank.false
