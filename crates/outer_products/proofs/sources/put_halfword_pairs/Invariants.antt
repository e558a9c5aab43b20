use Rattle.std.proofs.Common.{◌≡◌, ◌*◌, take}
use Rattle.vector_elements.specs.declared.size.Size.TheVariants.{H}
use Rattle.vector_elements.specs.Elements.{listed}
use Rattle.outer_products.specs.Sources.{pair_number}
use Rattle.outer_products.proofs.sources.put_halfword_pairs.Given as goal

abbrev pub invariant-loop-i : goal.invariant-loop-i
invariant-loop-i l = take (8 * l.i) l.out ≡ listed (pair_number 2 H l.signed l.bytes) (8 * l.i)
