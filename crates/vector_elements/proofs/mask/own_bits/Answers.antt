use Rattle.std.proofs.Common.{ap, ◌∙◌, ◌==◌, slice_index}
use Rattle.vector_elements.proofs.Spreads.{spread_is, spread_of}
use Rattle.vector_elements.proofs.mask.own_bits.Goals as goal

pub returns : goal.returns
returns c = λ k below.
    ap (λ b. slice_index (spread_of b) k == 0) c.from.ensures ∙ spread_is c.args.byte c.ranges.byte.fits k below
