use Rattle.std.proofs.Common.{◌≡◌, inl, inr, ◌+◌, ◌*◌, ◌%◌, Bool, true, false, Some, sym, ◌∙◌, ap, ap₂, refl}
use mir.Val.{bool_byte}
use Rattle.bit_ops.specs.Sums.{bool_number, word_size}
use Rattle.asm_operands.specs.Fields.{mask_field}
use Rattle.asm_operands.proofs.MaskFields.{mask_field-above, found-some, found-none, in_width}
use Rattle.asm_operands.proofs.fields.mask_field.Goals.{else-not-wide-via-then-not-wide+else-mask, else-not-wide-via-else-not-wide}
use Rattle.asm_operands.proofs.fields.mask_field.Goals as goal

number_of_bit : (b : Bool) → bool_byte b ≡ bool_number b
number_of_bit true = refl
number_of_bit false = refl

pub returns-then-mask : goal.returns-then-mask
returns-then-mask c = sym (ap (λ b. mask_field b c.args.mask) c.if-not-wide.true ∙ mask_field-above c.args.mask c.if-mask.true)

pub returns-in-Some : goal.returns-in-Some
returns-in-Some c =
    sym (found-some c.args.wide c.in-Some.n c.in-Some.imms c.in-Some.immr c.args.mask (c.args.mask % word_size c.args.wide)
    (in_width c.args.wide c.args.mask c.ranges.mask.fits (elim c.else-not-wide.branch [
      | else-not-wide-via-then-not-wide+else-mask w ↦ inr w.if-mask.false
      | else-not-wide-via-else-not-wide w ↦ inl w.if-not-wide.false
    ])) c.in-Some.ensures.some
    ∙ ap Some (ap₂ (λ a b. a + b) (ap₂ (λ a b. a * 4096 + b * 64) (sym (number_of_bit c.in-Some.n) ∙ sym c.from.ensures)
    (sym c.from-in-Some.ensures)) (sym c.from-in-Some-2.ensures)))

pub returns-in-None : goal.returns-in-None
returns-in-None c =
    sym (found-none c.args.wide c.args.mask (c.args.mask % word_size c.args.wide)
    (in_width c.args.wide c.args.mask c.ranges.mask.fits (elim c.else-not-wide.branch [
      | else-not-wide-via-then-not-wide+else-mask w ↦ inr w.if-mask.false
      | else-not-wide-via-else-not-wide w ↦ inl w.if-not-wide.false
    ])) (c.in-None.ensures.none.0 refl))
