use Rattle.std.proofs.Common.{◌≡◌, ◌+◌, ◌-◌, ◌^◌, ◌<◌, ◌∙◌, ap, subst, arith}
use Rattle.std.specs.Int.{rotate_right, w64}
use Rattle.scalar_exec.proofs.WordMasks.{long_is}
use Rattle.scalar_exec.proofs.logic.long_mask.Goals as goal

pub returns : goal.returns
returns c =
    let imms = c.args.imms in
    let immr = c.args.immr in
    let word = c.power-ones.result - 1 in
    let one : c.power-ones.result ≡ 2 ^ (imms + 1) = c.power-ones.ensures ∙ ap (λ k. 2 ^ (k + 1)) c.from.ensures in
    let turned : c.rotate_right.result ≡ rotate_right w64 word immr =
    c.rotate_right.ensures ∙ ap (rotate_right w64 word) c.from-2.ensures in
    turned ∙ long_is imms immr word c.requires.imms c.requires.immr (ap (λ k. k - 1) one) (omega (arith, c.power-ones.type_inv))
    (subst (λ k. k < 2 ^ 64) turned c.rotate_right.type_inv)
