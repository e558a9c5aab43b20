use Rattle.std.proofs.Common.{subst, sym}
use Rattle.std.specs.FinMap.{get-empty}
use Rattle.std.specs.Ordering.{nat_cmp}
use Rattle.kernel_contexts.specs.Watch.{AreOfSignals}
use Rattle.kernel_contexts.proofs.guest.GuestThread.start.Goals as goal

pub invariant_of-result-clause-handlers_of_signals : goal.invariant_of-result-clause-handlers_of_signals
invariant_of-result-clause-handlers_of_signals c = subst AreOfSignals (sym c.no_handlers.ensures) (λ k other. get-empty nat_cmp k)
