use Rattle.std.proofs.Common.{arith, ◌≡◌, ◌%◌, ◌∙◌, ap, sym, subst, refl, true, false, Some}
use Rattle.std.proofs.lemmas.Bool.{both_ways}
use Rattle.bit_ops.specs.Sums.{word_size}
use Rattle.bit_ops.specs.Masks.{is_reserved, mask_of, IsMask}
use Rattle.bit_ops.proofs.MaskBits.{reserved-is, none-of, some-of, mask-is, mask-facts, size_small}
use Rattle.bit_ops.proofs.masks.bit_mask.Goals.{Then-has_no_mask, After-low_word}
use Rattle.bit_ops.proofs.masks.bit_mask.Goals as goal

reserved : (c : Then-has_no_mask) → is_reserved c.args.n c.args.imms c.args.wide ≡ true
reserved c =
    sym (reserved-is c.args.n c.args.wide c.args.imms c.element_length-length.result c.low_bits-ones.result
    c.element_length-length.ensures.value c.low_bits-ones.ensures.value)
    ∙ sym c.has_no_mask.ensures ∙ c.if-has_no_mask.true

free : (c : After-low_word) → is_reserved c.args.n c.args.imms c.args.wide ≡ false
free c =
    sym (reserved-is c.args.n c.args.wide c.args.imms c.element_length-length.result c.low_bits-ones.result
    c.element_length-length.ensures.value c.low_bits-ones.ensures.value)
    ∙ sym c.has_no_mask.ensures ∙ c.if-has_no_mask.false

masked : (c : After-low_word) → c.low_word.result ≡ mask_of c.args.n c.args.imms c.args.immr c.args.wide
masked c =
    let size = size_small c.element_length-length.result c.element_length-length.ensures.small in
    let turn = c.low_bits.ensures.small in
    c.low_word.ensures.value ∙ ap (λ w. w % word_size c.args.wide) c.rotate_right-mask.ensures
    ∙ mask-is c.args.n c.args.wide c.args.imms c.args.immr c.element_length-length.result c.low_bits-ones.result c.low_bits.result
    c.repeated.result
    c.element_length-length.ensures.small c.element_length-length.ensures.value c.low_bits-ones.ensures.value c.low_bits.ensures.value
    (omega arith) (omega arith) c.repeated.ensures

pub returns-then-has_no_mask-clause-value : goal.returns-then-has_no_mask-clause-value
returns-then-has_no_mask-clause-value c = sym (none-of c.args.n c.args.wide c.args.imms c.args.immr (reserved c))

pub returns-then-has_no_mask-clause-none : goal.returns-then-has_no_mask-clause-none
returns-then-has_no_mask-clause-none c = (λ _. reserved c, λ _. refl)

pub returns-clause-value : goal.returns-clause-value
returns-clause-value c = ap Some (masked c) ∙ sym (some-of c.args.n c.args.wide c.args.imms c.args.immr (free c))

pub returns-clause-none : goal.returns-clause-none
returns-clause-none c = (λ e. absurd (both_ways true e refl), λ e. absurd (both_ways _ (free c) e))

pub returns-clause-bits : goal.returns-clause-bits
returns-clause-bits c =
    subst (IsMask c.args.n c.args.imms c.args.immr c.args.wide) (sym (masked c)) (mask-facts c.args.n c.args.wide c.args.imms c.args.immr)
