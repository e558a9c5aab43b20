use Rattle.std.proofs.Common.{◌*◌}
use Rattle.vector_elements.specs.declared.size.Size.TheVariants.{S}
use Rattle.outer_products.specs.Sources.{four_of, dot_in_pairs, IsSummedTo}
use Rattle.outer_products.proofs.rows.change_words.Given as goal

abbrev pub invariant-loop-turn : goal.invariant-loop-turn
invariant-loop-turn l = IsSummedTo S (dot_in_pairs 4 (four_of l.fn.s.n.now l.fn.r) l.fn.s.m.now) l.fn.row (16 * l.turn) l.row

abbrev pub invariant-loop-i : goal.invariant-loop-i
invariant-loop-i l = IsSummedTo S (dot_in_pairs 4 (four_of l.fn.s.n.now l.fn.r) l.fn.s.m.now) l.fn.row (4 * l.i) l.row
