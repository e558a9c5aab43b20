use Rattle.std.proofs.Common.{◌≡◌, ◌&&◌, ◌*◌, ℕ, Bool, List, arith, length, replicate, subst}
use Rattle.vector_elements.specs.Elements.{is_active}
use Rattle.vector_elements.specs.Numbers.{bytes_in}
use Rattle.predicates.proofs.Bits.{are_bits}
use Rattle.predicates.proofs.Gathered.{AreGatheredTo, gathered_bit}
use Rattle.predicates.proofs.marks.put_two.Goals as goal

pub returns : goal.returns
returns g c =
    let size = c.args.size in
    let n = length c.args.pd.now in
    let long : length c.gather_two.new.pd ≡ n = omega arith in
    let pg = c.args.pg.now in
    let new = c.gather_two.new.pd in
    let holds : ℕ → Bool = g.T.Truth.gives c.args.truth.now size in
    let marks : List ℕ = replicate 16 0 in
    let long_marks : length marks ≡ 8 * n = (let two = c.requires.two in omega (arith, two)) in
    let gathered = subst (λ (m : List ℕ). AreGatheredTo size m pg new n) c.change_each.ensures c.gather_two.ensures in
    are_bits (bytes_in size) new n (λ i. is_active (bytes_in size) pg i && holds i) c.truths_tell_bytes.ensures long
    (λ j below. gathered_bit size marks pg new holds n long_marks gathered j (omega arith))
