use Rattle.std.proofs.Common.{◌≡◌, ◌*◌, take}
use Rattle.vector_elements.specs.declared.size.Size.TheVariants.{B}
use Rattle.vector_elements.specs.Elements.{listed}
use Rattle.outer_products.specs.Sources.{pair_number}
use Rattle.outer_products.proofs.sources.put_byte_pairs.Given as goal

abbrev pub invariant-loop-i : goal.invariant-loop-i
invariant-loop-i l = take (16 * l.i) l.out ≡ listed (pair_number 4 B l.signed l.bytes) (16 * l.i)
