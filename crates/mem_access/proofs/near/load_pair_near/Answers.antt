use Rattle.std.proofs.Common.{ap, sym, ◌∙◌}
use Rattle.std.specs.Prelude.{is_some}
use Rattle.mem_access.proofs.MadeNear.{pair_loaded_near}
use Rattle.mem_access.proofs.near.load_pair_near.Goals as goal

pub returns : goal.returns
returns c =
    pair_loaded_near c.args.x.now c.pair_access-access.result c.args.s.now c.load_pair_at.new.s c.args.pages.now c.load_pair_at.result
    c.pair_access-access.ensures.value (ap is_some (sym c.place_fault.ensures) ∙ sym c.if-is_some.ensures) c.requires.load
    c.load_pair_at.ensures
