use Rattle.std.proofs.Common.{◌∙◌, sym}
use Rattle.mem_access.proofs.Lists.{shared_run}
use Rattle.sve_access.proofs.Unfaulted.{of_any}
use Rattle.sve_access.proofs.within_page.readable_bytes.Goals as goal

pub returns-in-None-clause-private : goal.returns-in-None-clause-private
returns-in-None-clause-private c =
    of_any c.bytes_within.result _ (shared_run c.args.address c.args.size ∙ sym c.first_shared.ensures ∙ c.in-None.is)
