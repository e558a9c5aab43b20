use Rattle.std.proofs.Common.{◌≡◌, ◌+◌, ◌*◌, ◌%◌, ◌^◌, sym, ap, ap₂, ◌∙◌, arith}
use Rattle.bit_ops.specs.Reversals.{reversed_bits}
use Rattle.scalar_exec.proofs.Reversals.{reversed-halves}
use Rattle.scalar_exec.proofs.sources.reverse.Goals as goal

pub returns-then-wide : goal.returns-then-wide
returns-then-wide c =
    let low = c.reverse_bits-low.result in
    let high = c.reverse_bits-high.result in
    let fits = c.reverse_bits-low.ensures.word in
    let kept : low * 2 ^ 32 % 2 ^ 64 + high ≡ low * 2 ^ 32 + high = omega arith in
    kept ∙ ap₂ (λ l h. l * 2 ^ 32 + h) c.reverse_bits-low.ensures.value c.reverse_bits-high.ensures.value
    ∙ reversed-halves c.args.value (omega arith) ∙ ap (λ w. reversed_bits w c.args.value) (sym c.if-wide.true)
