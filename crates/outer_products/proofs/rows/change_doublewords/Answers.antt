use Rattle.std.proofs.Common.{arith, ap, ◌∙◌, ◌*◌, ◌+◌, ℕ}
use Rattle.std.specs.Int.{w32}
use Rattle.vector_elements.specs.declared.size.Size.TheVariants.{D}
use Rattle.vector_elements.proofs.Lists.{begun, finished}
use Rattle.outer_products.specs.Sources.{four_of, dot_in_pairs, doubleword_sums, summed, row_of_sums}
use Rattle.outer_products.proofs.Written.{summed_next, summed_turn}
use Rattle.outer_products.proofs.Lanes.{read_four}
use Rattle.outer_products.proofs.rows.change_doublewords.Goals as goal

pub loop-turn-init : goal.loop-turn-init
loop-turn-init c = begun _ _ _

pub loop-turn-preserved : goal.loop-turn-preserved
loop-turn-preserved c =
    let n = c.args.s.now.n.now in
    let m = c.args.s.now.m.now in
    let t = c.loop-turn.turn in
    let sums = dot_in_pairs 2 (four_of n c.args.r) m in
    let made = λ (i : ℕ). ap (λ ns. doubleword_sums (dot_in_pairs 2 ns m) (2 * i)) (read_four w32 n c.args.r c.requires.n_fit) in
    summed_turn D sums c.args.row.now _ _ _ _ _ 2 t c.loop-turn.invariant
    (c.add_doublewords.ensures sums (c.doubleword_sums.ensures ∙ made (4 * t)))
    (c.add_doublewords-in-loop-turn.ensures sums (c.doubleword_sums-in-loop-turn.ensures ∙ made (4 * t + 1)))
    (c.add_doublewords-in-loop-turn-2.ensures sums (c.doubleword_sums-in-loop-turn-2.ensures ∙ made (4 * t + 2)))
    (c.add_doublewords-in-loop-turn-3.ensures sums (c.doubleword_sums-in-loop-turn-3.ensures ∙ made (4 * t + 3)))

pub loop-i-preserved : goal.loop-i-preserved
loop-i-preserved c =
    let n = c.args.s.now.n.now in
    let m = c.args.s.now.m.now in
    let i = c.loop-i.i in
    let sums = dot_in_pairs 2 (four_of n c.args.r) m in
    let made = c.doubleword_sums-in-loop-i.ensures
    ∙ ap (λ ns. doubleword_sums (dot_in_pairs 2 ns m) (2 * i)) (read_four w32 n c.args.r c.requires.n_fit) in
    summed_next D sums c.args.row.now c.loop-i.row c.add_doublewords-in-loop-i.new.row (2 * i) (2 * i) 2 (2 * (i + 1))
    c.loop-i.invariant (c.add_doublewords-in-loop-i.ensures sums made) (omega arith) (omega arith)

pub returns : goal.returns
unfolding row_of_sums
returns c =
    finished 8 (summed D (dot_in_pairs 2 (four_of c.args.s.now.n.now c.args.r) c.args.s.now.m.now)) c.args.row.now c.loop-i.row
    (2 * c.loop-i.i) (omega arith) (omega (arith, c.requires.whole))
    (omega (arith, c.requires.m, c.requires.whole, c.loop-i-test.false, c.loop-i.auto.i, c.loop-i.auto.i-end)) c.loop-i.invariant
