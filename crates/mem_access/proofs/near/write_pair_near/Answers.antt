use Rattle.std.proofs.Common.{◌≡◌, true, false, sym, subst, length, ap, ◌∙◌}
use Rattle.std.specs.Prelude.{Bool}
use Rattle.mem_access.specs.Near.{WritesPair}
use Rattle.mem_access.proofs.MadeNear.{pair_stored}
use Rattle.mem_access.proofs.near.write_pair_near.Goals as goal

pub returns-then-wide-clause-near : goal.returns-then-wide-clause-near
returns-then-wide-clause-near c =
    rw c.if-wide.true (pair_stored c.args.address true c.args.first c.args.second _ c.args.pages.now c.write_near.new.self
    c.write_near.result c.write_near.ensures.near c.joined_wide.ensures)

pub returns-else-wide-clause-near : goal.returns-else-wide-clause-near
returns-else-wide-clause-near c =
    rw c.if-wide.false (pair_stored c.args.address false c.args.first c.args.second _ c.args.pages.now c.write_near-else-wide.new.self
    c.write_near-else-wide.result c.write_near-else-wide.ensures.near c.joined_narrow.ensures)
