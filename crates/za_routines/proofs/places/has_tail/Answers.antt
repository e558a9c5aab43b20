use Rattle.std.proofs.Common.{sym, ◌∙◌}
use Rattle.lazy_saving.specs.Code.{HasTail}
use Rattle.za_routines.proofs.Limits.{false_iff, never}
use Rattle.za_routines.proofs.Tails.{tail_calls, no_word}
use Rattle.za_routines.proofs.places.has_tail.Goals as goal

pub returns-else-calls : goal.returns-else-calls
returns-else-calls c = (
  λ t. absurd (never c.calls.result c.if-calls.false t),
  λ h.
      c.calls.ensures.1
      (tail_calls c.args.pages.now.memory c.args.address c.args.routine c.in-Some.call (sym c.fetch.ensures ∙ c.in-Some.is) h),
)

pub returns-in-None : goal.returns-in-None
returns-in-None c =
    false_iff (HasTail c.args.pages.now.memory c.args.address c.args.routine)
    (no_word c.args.pages.now.memory c.args.address c.args.routine (sym c.fetch.ensures ∙ c.in-None.is))
