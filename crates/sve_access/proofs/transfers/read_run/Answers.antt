use Rattle.std.proofs.Common.{sym, ap, ◌∙◌, length, []}
use Rattle.std.specs.Prelude.{unwrap_or}
use Rattle.mem_access.proofs.Lists.{bytes_run}
use Rattle.sve_access.proofs.transfers.read_run.Goals as goal

pub returns : goal.returns
returns c =
    sym (ap (λ o. unwrap_or o []) (bytes_run c.args.pages.now.memory c.args.address (length c.args.into.now) ∙ c.in-Ok.ensures.ok))
