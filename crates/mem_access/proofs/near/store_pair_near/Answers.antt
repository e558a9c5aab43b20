use Rattle.std.proofs.Common.{ap, sym, ◌∙◌}
use Rattle.std.specs.Prelude.{is_some}
use Rattle.mem_access.proofs.MadeNear.{pair_stored_near}
use Rattle.mem_access.proofs.near.store_pair_near.Goals as goal

pub returns-clause-made : goal.returns-clause-made
returns-clause-made c =
    pair_stored_near c.args.x.now c.pair_access-access.result c.args.s.now c.store_pair_at.new.s c.args.pages.now
    c.store_pair_at.new.pages c.store_pair_at.result c.pair_access-access.ensures.value
    (ap is_some (sym c.place_fault.ensures) ∙ sym c.if-is_some.ensures) c.requires.store c.store_pair_at.ensures.made
    c.store_pair_at.ensures.stays
