use Rattle.std.proofs.Common.{◌≡◌, ◌∙◌, ◌<◌, ◌/◌, arith}
use Rattle.predicates.proofs.Below.{low_bits, bits_before, bits_here, bits_after}
use Rattle.predicates.proofs.pattern_predicate.byte_before.Goals as goal

pub returns-then-byte-last : goal.returns-then-byte-last
returns-then-byte-last c = λ k few.
    let before : c.args.i < c.args.end / 8 = omega arith in
    low_bits 8 k (omega arith) few ∙ bits_before c.args.end c.args.i k before few

pub returns-then-byte-last-2 : goal.returns-then-byte-last-2
returns-then-byte-last-2 c = λ k few.
    let here : c.args.i ≡ c.args.end / 8 = omega arith in
    c.requires.part k few ∙ bits_here c.args.end c.args.i k here few

pub returns-else-byte-last-2 : goal.returns-else-byte-last-2
returns-else-byte-last-2 c = λ k few.
    let after : c.args.end / 8 < c.args.i = omega arith in
    low_bits 0 k (omega arith) few ∙ bits_after c.args.end c.args.i k after few
