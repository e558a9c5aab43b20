use Rattle.std.proofs.Common.{◌∙◌}
use Rattle.za_access.proofs.Units.{own_units, pairs_are_units}
use Rattle.za_access.proofs.elements.copy_units.Goals as goal

pub returns-in-Q : goal.returns-in-Q
returns-in-Q c =
    pairs_are_units c.args.size c.args.pg.now c.copy_pairs.new.units c.in-Q.is (c.copy_pairs.auto.units ∙ c.requires.long) c.requires.even
    c.copy_pairs.ensures

pub returns-in_default : goal.returns-in_default
returns-in_default c =
    own_units c.args.size c.args.pg.now c.copy_from_slice.new.self c.in_default.not-Q c.copy_from_slice.ensures.after
