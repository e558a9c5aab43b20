use Rattle.std.proofs.Common.{◌≡◌, true, slice_index, subst, sym, arith}
use Rattle.kernel_contexts.specs.Handlers.{is_signal}
use Rattle.kernel_contexts.specs.HandlerTable.{handlers_of}
use Rattle.kernel_contexts.specs.Watch.{AreOfSignals}
use Rattle.kernel_contexts.proofs.Signals.{signal_is, kept_of_signals}
use Rattle.kernel_contexts.proofs.guest.GuestThread.set_handler.Goals as goal

pub invariant_of-self-clause-handlers_of_signals : goal.invariant_of-self-clause-handlers_of_signals
invariant_of-self-clause-handlers_of_signals c =
    let t = c.args.self.now in
    let signal = slice_index t.machine.scalars.x 0 in
    let address = slice_index t.machine.scalars.x 1 in
    let known : is_signal signal ≡ true =
    signal_is signal (omega (arith, c.if-signal-lt1.false)) (omega (arith, c.if-signal-gt62.false)) in
    subst AreOfSignals (sym c.set_handler.ensures) (kept_of_signals (handlers_of t.handlers) signal address known t.handlers_of_signals)
