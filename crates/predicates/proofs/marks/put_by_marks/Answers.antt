use Rattle.std.proofs.Common.{◌≡◌, ◌&&◌, ℕ, Bool, List, arith, length, subst}
use Rattle.vector_elements.specs.Elements.{is_active}
use Rattle.vector_elements.specs.Numbers.{bytes_in}
use Rattle.predicates.proofs.Bits.{are_bits}
use Rattle.predicates.proofs.Gathered.{AreGatheredTo, gathered_bit}
use Rattle.predicates.proofs.marks.put_by_marks.Goals as goal

pub returns : goal.returns
returns g c =
    let size = c.args.size in
    let n = length c.args.pd.now in
    let long : length c.gather_active.new.pd ≡ n = omega arith in
    let pg = c.args.pg.now in
    let new = c.gather_active.new.pd in
    let holds : ℕ → Bool = g.T.Truth.gives c.args.truth.now size in
    let gathered = subst (λ (m : List ℕ). AreGatheredTo size m pg new n) c.change_each.ensures c.gather_active.ensures in
    are_bits (bytes_in size) new n (λ i. is_active (bytes_in size) pg i && holds i) c.truths_tell_bytes.ensures long
    (λ j below. gathered_bit size c.args.marks.now pg new holds n c.requires.long gathered j (omega arith))
