use Rattle.std.proofs.Common.{◌≡◌, ◌+◌, ◌-◌, ◌*◌, ◌%◌, ◌^◌, ◌≤◌, ◌∙◌, ap, arith, lit≤}
use Rattle.std.proofs.Math.Nat.{pow-le-pow_right}
use Rattle.std.specs.Int.{rotate_right, w64}
use Rattle.scalar_exec.proofs.WordMasks.{short_is}
use Rattle.scalar_exec.proofs.logic.short_mask.Goals as goal

pub returns : goal.returns
returns c =
    let imms = c.args.imms in
    let immr = c.args.immr in
    let ones = c.power-ones.result - 1 in
    let word = c.shifted_field.result + ones in
    let one : c.power-ones.result ≡ 2 ^ (imms + 1) = c.power-ones.ensures ∙ ap (λ k. 2 ^ (k + 1)) c.from.ensures in
    let le : imms + 1 ≤ 31 = omega (arith, c.requires.imms) in
    let few : 2 ^ (imms + 1) ≤ 2 ^ 31 = pow-le-pow_right {n = 2} (lit≤ tt) le in
    let high = c.shifted_field.ensures.small in
    let turned : c.rotate_right.result ≡ rotate_right w64 word immr =
    c.rotate_right.ensures ∙ ap (rotate_right w64 word) c.from-2.ensures in
    c.low_word.ensures.value ∙ ap (λ k. k % 2 ^ 32) turned
    ∙ short_is imms immr word c.requires.imms c.requires.immr
    (ap (λ k. k + ones) c.shifted_field.ensures.value ∙ ap (λ k. (k - 1) * 2 ^ 32 + (k - 1)) one) (omega (arith, one, few, high))
