use Rattle.std.proofs.Common.{◌≡◌, arith, ap, ◌∙◌, ◌*◌, ◌+◌, ℕ, ℤ, List, length, subst}
use Rattle.std.specs.Int.{w16}
use Rattle.vector_elements.specs.declared.size.Size.TheVariants.{S}
use Rattle.vector_elements.proofs.Lists.{begun, finished}
use Rattle.outer_products.specs.Sources.{four_of, dot_in_pairs, word_sums, summed, row_of_sums, IsSummedTo}
use Rattle.outer_products.proofs.Written.{summed_next, summed_turn}
use Rattle.outer_products.proofs.Lanes.{read_four}
use Rattle.outer_products.proofs.rows.change_words.Goals as goal

pub loop-turn-init : goal.loop-turn-init
loop-turn-init c = begun _ _ _

pub loop-turn-preserved : goal.loop-turn-preserved
loop-turn-preserved c =
    let n = c.args.s.now.n.now in
    let m = c.args.s.now.m.now in
    let t = c.loop-turn.turn in
    let sums = dot_in_pairs 4 (four_of n c.args.r) m in
    let made = λ (i : ℕ). ap (λ ns. word_sums (dot_in_pairs 4 ns m) (4 * i)) (read_four w16 n c.args.r c.requires.n_fit) in
    summed_turn S sums c.args.row.now _ _ _ _ _ 4 t c.loop-turn.invariant
    (c.add_words.ensures sums (c.word_sums.ensures ∙ made (4 * t)))
    (c.add_words-in-loop-turn.ensures sums (c.word_sums-in-loop-turn.ensures ∙ made (4 * t + 1)))
    (c.add_words-in-loop-turn-2.ensures sums (c.word_sums-in-loop-turn-2.ensures ∙ made (4 * t + 2)))
    (c.add_words-in-loop-turn-3.ensures sums (c.word_sums-in-loop-turn-3.ensures ∙ made (4 * t + 3)))

pub loop-i-preserved : goal.loop-i-preserved
loop-i-preserved c =
    let n = c.args.s.now.n.now in
    let m = c.args.s.now.m.now in
    let i = c.loop-i.i in
    let sums = dot_in_pairs 4 (four_of n c.args.r) m in
    let made = c.word_sums-in-loop-i.ensures
    ∙ ap (λ ns. word_sums (dot_in_pairs 4 ns m) (4 * i)) (read_four w16 n c.args.r c.requires.n_fit) in
    summed_next S sums c.args.row.now c.loop-i.row c.add_words-in-loop-i.new.row (4 * i) (4 * i) 4 (4 * (i + 1))
    c.loop-i.invariant (c.add_words-in-loop-i.ensures sums made) (omega arith) (omega arith)

pub returns : goal.returns
unfolding row_of_sums
returns c =
    finished 4 (summed S (dot_in_pairs 4 (four_of c.args.s.now.n.now c.args.r) c.args.s.now.m.now)) c.args.row.now c.loop-i.row
    (4 * c.loop-i.i) (omega arith) (omega (arith, c.requires.whole))
    (omega (arith, c.requires.m, c.requires.whole, c.loop-i-test.false, c.loop-i.auto.i, c.loop-i.auto.i-end)) c.loop-i.invariant

pub returns-then-s-eq256 : goal.returns-then-s-eq256
unfolding row_of_sums
returns-then-s-eq256 c =
    let n = c.args.s.now.n.now in
    let m = c.args.s.now.m.now in
    let old = c.args.row.now in
    let new = c.add_sixteen.new.row in
    let long : length old ≡ 256 = omega (arith, c.requires.m, c.if-s-eq256.true) in
    let all = subst (λ (ns : List ℤ). IsSummedTo S (dot_in_pairs 4 ns m) old 64 new) (read_four w16 n c.args.r c.requires.n_fit)
    c.add_sixteen.ensures in
    finished 4 (summed S (dot_in_pairs 4 (four_of n c.args.r) m)) old new 64 (omega arith) (omega (arith, c.requires.whole))
    (omega (arith, long)) all
