use Rattle.std.proofs.Common.{◌≡◌, ◌∙◌, ap, suc, arith, mod-eq_of_lt, ◌%◌, ◌<◌, ◌^◌, ℕ, true, false, Bool}
use Rattle.bit_ops.specs.Counts.{leading_zeros_of, leading_signs_of}
use Rattle.bit_ops.specs.Sums.{word_size, half_size}
use Rattle.bit_ops.proofs.Signs.{signs-is}
use Rattle.bit_ops.proofs.counts.count_signs.Goals.{After-count_zeros}
use Rattle.bit_ops.proofs.counts.count_signs.Goals as goal

half_low : (wide : Bool) (m : ℕ) → m < half_size wide → m % word_size wide ≡ m
half_low true m lt = mod-eq_of_lt (let h : m < 2 ^ 64 = omega arith in h)
half_low false m lt = mod-eq_of_lt (let h : m < 2 ^ 32 = omega arith in h)

counted : (c : After-count_zeros) → c.count_zeros.result ≡ suc (leading_signs_of c.args.wide (c.args.value % word_size c.args.wide))
counted c =
    let plain = c.without_sign.ensures in
    c.count_zeros.ensures.value ∙ ap (leading_zeros_of c.args.wide) (half_low c.args.wide c.without_sign.result plain.small)
    ∙ signs-is c.args.wide c.low_word.result c.without_sign.result c.low_word.ensures.small plain.small plain.clear plain.set
    ∙ ap (λ n. suc (leading_signs_of c.args.wide n)) c.low_word.ensures.value

pub overflow_sub-result : goal.overflow_sub-result
overflow_sub-result c = let e = counted c in omega arith

pub returns-clause-value : goal.returns-clause-value
returns-clause-value c = let e = counted c in omega arith
