use Rattle.std.proofs.Common.{◌≡◌, ℕ, ◌+◌, ◌*◌, ◌≤◌, arith, length, subst, sym, bit_and, set}
use Rattle.vector_elements.specs.Numbers.{bytes_in}
use Rattle.predicates.proofs.Bits.{are_bits}
use Rattle.predicates.proofs.Below.{AreBelow, below_next, below_bit, end_within}
use Rattle.predicates.proofs.pattern_predicate.put_below.Goals as goal

pub loop-i-init : goal.loop-i-init
loop-i-init c = λ j none. absurd (omega arith)

pub loop-i-preserved : goal.loop-i-preserved
loop-i-preserved c =
    let ones = c.byte_before-ones.result in
    subst (λ (bits : ℕ). AreBelow c.args.size c.end_of-end.result (set c.loop-i.pd c.loop-i.i (bit_and bits ones)) (c.loop-i.i + 1))
    (sym c.element_bits-bits.ensures)
    (below_next c.args.size c.end_of-end.result c.loop-i.i ones c.loop-i.pd (omega arith)
    c.byte_before-ones.ensures c.loop-i.invariant)

pub returns : goal.returns
returns c =
    let n = length c.args.pd.now in
    let long : length c.loop-i.pd ≡ n = omega arith in
    are_bits (bytes_in c.args.size) c.loop-i.pd n _ c.truths_tell_bytes.ensures long
    (λ j below. below_bit c.args.size c.args.limit n c.end_of-end.result c.loop-i.pd c.end_of-end.ensures
    (λ k small. c.loop-i.invariant k (omega arith)) j (omega arith))

pub byte_before-ones-requires-clause-end : goal.byte_before-ones-requires-clause-end
byte_before-ones-requires-clause-end c =
    let n = length c.args.pd.now in
    let end : c.end_of-end.result ≤ 8 * n =
    subst (λ (k : ℕ). k ≤ 8 * n) (sym c.end_of-end.ensures) (end_within c.args.size c.args.limit n) in
    omega (arith, end)
