use Rattle.std.proofs.Common.{ℕ, ◌<◌, arith, subst, sym, bit_and, get_or, set, List, length, length-set}
use Rattle.predicates.proofs.Gathered.{AreGatheredTo, gathered_next}
use Rattle.predicates.proofs.marks.gather_two.Goals as goal

pub returns : goal.returns
returns c =
    let size = c.args.size in
    let marks = c.args.marks.now in
    let pg = c.args.pg.now in
    let pd = c.args.pd.now in
    let bits = c.element_bits-bits.result in
    let one : ℕ → List ℕ = λ n. set pd 0 (bit_and (bit_and c.gather.result (get_or pg 0 0)) n) in
    let first : AreGatheredTo size marks pg (one bits) 1 =
    subst (λ n. AreGatheredTo size marks pg (one n) 1) (sym c.element_bits-bits.ensures)
    (gathered_next size marks pg pd 0 c.gather.result (omega arith) c.gather.ensures (λ j none. absurd (omega arith))) in
    let room : 1 < length (one bits) = simp length-set (omega arith) in
    let two : ℕ → List ℕ = λ n. set (one bits) 1 (bit_and (bit_and c.gather-2.result (get_or pg 1 0)) n) in
    let second : AreGatheredTo size marks pg (two bits) 2 =
    subst (λ n. AreGatheredTo size marks pg (two n) 2) (sym c.element_bits-bits.ensures)
    (gathered_next size marks pg (one bits) 1 c.gather-2.result room c.gather-2.ensures first) in
    λ j below. second j (omega arith)
