use Rattle.std.proofs.Common.{ap, sym, ◌∙◌}
use Rattle.kernel_contexts.specs.Context.{state_of, journal_of}
use Rattle.std.proofs.Common.{length}
use Rattle.lone_runner.specs.Parting.{parting_when}
use Rattle.lone_runner.proofs.Resumes.{parting_is}
use Rattle.lone_runner.proofs.replay.parting.Goals as goal

pub returns : goal.returns
returns c =
    let context = c.args.context.now in
    let ahead = c.args.ticket.now.ahead in
    c.parting_of.ensures ahead (sym c.left.ensures) ∙ ap (λ made. parting_when c.args.count made c.args.stop ahead) c.count.ensures
    ∙ sym (parting_is c.args.count (state_of context) c.args.stop (length (journal_of context)) ahead)
