use Rattle.std.proofs.Common.{ℕ, ◌+◌, arith, subst, sym, set, get_or, bit_and}
use Rattle.predicates.proofs.Gathered.{AreGatheredTo, gathered_next}
use Rattle.predicates.proofs.marks.gather_active.Goals as goal

pub loop-i-init : goal.loop-i-init
loop-i-init c = λ j none. absurd (omega arith)

pub loop-i-preserved : goal.loop-i-preserved
loop-i-preserved c =
    let element : ℕ → ℕ = λ n. bit_and (bit_and c.gather.result (get_or c.args.pg.now c.loop-i.i 0)) n in
    subst (λ n. AreGatheredTo c.args.size c.args.marks.now c.args.pg.now (set c.loop-i.pd c.loop-i.i (element n)) (c.loop-i.i + 1))
    (sym c.element_bits-bits.ensures)
    (gathered_next c.args.size c.args.marks.now c.args.pg.now c.loop-i.pd c.loop-i.i c.gather.result (omega arith) c.gather.ensures
    c.loop-i.invariant)

pub returns : goal.returns
returns c = λ j below. c.loop-i.invariant j (omega arith)
