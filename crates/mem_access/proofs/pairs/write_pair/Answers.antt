use Rattle.std.proofs.Common.{ap, ◌∙◌}
use Rattle.std.proofs.lemmas.Result.{on_ok_weaker}
use Rattle.mem_access.specs.Runs.{with_bytes}
use Rattle.mem_access.proofs.pairs.write_pair.Goals as goal

pub returns-then-wide-clause-ok : goal.returns-then-wide-clause-ok
returns-then-wide-clause-ok c =
    rw c.if-wide.true (on_ok_weaker c.write_bytes.result
    (λ is. is ∙ ap (with_bytes c.args.pages.now.memory c.args.address) c.joined_wide.ensures)
    c.write_bytes.ensures.ok)

pub returns-else-wide-clause-ok : goal.returns-else-wide-clause-ok
returns-else-wide-clause-ok c =
    rw c.if-wide.false (on_ok_weaker c.write_bytes-else-wide.result
    (λ is. is ∙ ap (with_bytes c.args.pages.now.memory c.args.address) c.joined_narrow.ensures) c.write_bytes-else-wide.ensures.ok)
