use Rattle.std.proofs.Common.{◌≡◌, take}
use Rattle.vector_elements.specs.declared.size.Size.TheVariants.{H}
use Rattle.vector_elements.specs.Elements.{listed}
use Rattle.outer_products.specs.Sources.{number_at}
use Rattle.outer_products.proofs.sources.write_halfwords.Given as goal

abbrev pub invariant-loop-i : goal.invariant-loop-i
invariant-loop-i l = take l.i l.out ≡ listed (number_at H l.signed l.negative l.bytes) l.i
