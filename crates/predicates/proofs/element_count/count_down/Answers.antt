use Rattle.std.proofs.Common.{◌∙◌, ap, pos, ◌-ℤ◌}
use Rattle.vector_elements.specs.declared.size.Size.TheVariants.{D}
use Rattle.vector_elements.specs.Numbers.{wrapped}
use Rattle.predicates.specs.Counts.{counted_down}
use Rattle.predicates.proofs.Differences.{less}
use Rattle.predicates.proofs.element_count.count_down.Goals as goal

pub returns : goal.returns
unfolding counted_down
returns c =
    less c.args.x c.element_number.result c.ranges.x.fits c.element_number.type_inv
    ∙ ap (λ n. wrapped D (pos c.args.x -ℤ pos n)) c.element_number.ensures
