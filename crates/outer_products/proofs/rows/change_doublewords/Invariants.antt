use Rattle.std.proofs.Common.{◌*◌}
use Rattle.vector_elements.specs.declared.size.Size.TheVariants.{D}
use Rattle.outer_products.specs.Sources.{four_of, dot_in_pairs, IsSummedTo}
use Rattle.outer_products.proofs.rows.change_doublewords.Given as goal

abbrev pub invariant-loop-turn : goal.invariant-loop-turn
invariant-loop-turn l = IsSummedTo D (dot_in_pairs 2 (four_of l.fn.s.n.now l.fn.r) l.fn.s.m.now) l.fn.row (8 * l.turn) l.row

abbrev pub invariant-loop-i : goal.invariant-loop-i
invariant-loop-i l = IsSummedTo D (dot_in_pairs 2 (four_of l.fn.s.n.now l.fn.r) l.fn.s.m.now) l.fn.row (2 * l.i) l.row
