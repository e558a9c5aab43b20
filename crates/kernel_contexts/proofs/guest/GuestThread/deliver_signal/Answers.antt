use Rattle.std.proofs.Common.{ap, sym, ◌∙◌}
use Rattle.kernel_contexts.specs.HandlerTable.{handlers_of}
use Rattle.kernel_contexts.proofs.Signals.{of_signal}
use Rattle.machine_step.specs.declared.machine.Machine.{Machine}
use Rattle.kernel_contexts.proofs.Owned.{stops_owned}
use Rattle.kernel_contexts.proofs.guest.GuestThread.deliver_signal.Goals as goal

pub returns-in-None-clause-owned : goal.returns-in-None-clause-owned
returns-in-None-clause-owned c =
    stops_owned _ c.args.self.now.machine.pages c.stop_with.new.self.machine.pages c.stop_with.result _ c.stop_with.ensures.answer
    (ap (λ (m : Machine). m.pages) (c.stop_with.ensures.machine ∙ c.release.ensures.machine))

pub enter_handler-requires-clause-known : goal.enter_handler-requires-clause-known
enter_handler-requires-clause-known c =
    let t = c.args.self.now in
    of_signal (handlers_of t.handlers) c.lowest_signal-signal.result c.in-Some.handler t.handlers_of_signals
    (sym c.handler_of.ensures ∙ c.in-Some.is)
