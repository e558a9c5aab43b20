use Rattle.std.proofs.Common.{sym, ◌∙◌}
use Rattle.mem_access.proofs.Lists.{shared_run}
use Rattle.sve_access.proofs.checks.UnsharedCheck.first.Goals as goal

pub returns : goal.returns
returns c = c.first_shared.ensures ∙ sym (shared_run c.args.address c.args.size)
