use Rattle.std.proofs.Common.{ap, ◌∙◌}
use Rattle.std.specs.Int.{w64, trailing_zeros, bit_at}
use Rattle.kernel_contexts.specs.GuestThread.{bare_state}
use Rattle.kernel_contexts.specs.Turn.{lowest_signal}
use Rattle.kernel_contexts.proofs.Signals.{at_least, lowest_open}
use Rattle.kernel_contexts.proofs.Watched.{IsDue, due_so}
use Rattle.kernel_contexts.proofs.guest.GuestThread.lowest_signal.Goals as goal

pub returns : goal.returns
returns c =
    let t = c.args.self.now in
    let due : IsDue (bare_state t) = due_so t.config (bare_state t) c.requires in
    let low = lowest_open t.held t.mask due.some_open in
    let is = ap (trailing_zeros w64) c.open_signals.ensures in
    record {
      signal = is;
      within = rw is low.within;
      held = ap (bit_at t.held) is ∙ low.bit;
      is_held = rw is (at_least t.held (lowest_signal (bare_state t)) low.bit);
    }
