-- An operand that holds no field and has no rule adds nothing to what is known.
use Rattle.std.proofs.Common.{◌≡◌, ℕ, ◌+◌, ◌-◌, ◌*◌, ◌/◌, ◌%◌, ◌^◌, ◌==◌, ◌&&◌, true, Some, refl, ap₂, ◌∙◌, arith, eqb-true}
use Rattle.std.specs.Int.Bits.{or_zero_r}
use Rattle.std.proofs.lemmas.Bool.{and_parts}
use Rattle.std.proofs.lemmas.Nat.{and_comm}
use Rattle.insn_forms.specs.Fields as fields
use Rattle.insn_text.specs.declared.item.Item.{Item}
use Rattle.insn_text.specs.declared.item.Rule.{Rule}
use Rattle.insn_text.specs.declared.item.Rule.TheVariants.{Free}
use Rattle.insn_text.specs.Rules.{meets}
use Rattle.asm_operands.specs.Operands.{PartialWord, mask_of, placed, with_field, agrees, partial_with}
use Rattle.asm_operands.specs.Sound.{is_free, is_bare}

no_mask : (i : Item) → i.field.width ≡ 0 → i.field.upper_width ≡ 0 → mask_of i ≡ 0
unfolding fields.mask_of
no_mask i w u =
    ap₂ (λ m n. (2 ^ n - 1) * 2 ^ i.field.upper_low + (2 ^ m - 1) * 2 ^ i.field.low) w u ∙ omega arith

no_part : (n k : ℕ) → n % 1 * k ≡ 0
no_part n k = let z : n % 1 ≡ 0 = omega arith in ap₂ (λ a b. a * b) z refl ∙ omega arith

nothing_placed : (i : Item) (f : ℕ) → i.field.width ≡ 0 → i.field.upper_width ≡ 0 → placed i f ≡ 0
unfolding fields.placed
nothing_placed i f w u =
    ap₂ (λ m n. f / 2 ^ m % 2 ^ n * 2 ^ i.field.upper_low + f % 2 ^ m * 2 ^ i.field.low) w u
    ∙ ap₂ (λ a b. a + b) (no_part (f / 2 ^ 0) (2 ^ i.field.upper_low)) (no_part f (2 ^ i.field.low))

pub free : (r : Rule) → is_free r ≡ true → r ≡ Free
free Free e = refl
free other e = cc

with_none : (i : Item) (partial : PartialWord) (f : ℕ) → mask_of i ≡ 0 → placed i f ≡ 0 → i.rule ≡ Free
    → Some partial ≡ partial_with i partial (Some f)
unfolding partial_with agrees with_field meets
with_none i partial f m p r =
    rw (m, p, r, and_comm partial.value 0, or_zero_r partial.mask, or_zero_r partial.value) refl

pub with_bare : (i : Item) (partial : PartialWord) (f : ℕ) → is_bare i ≡ true → Some partial ≡ partial_with i partial (Some f)
unfolding is_bare
with_bare i partial f e =
    let p = and_parts ((i.field.width == 0) && (i.field.upper_width == 0)) (is_free i.rule) e in
    let q = and_parts (i.field.width == 0) (i.field.upper_width == 0) p.0 in
    let w = eqb-true i.field.width 0 q.0 in
    let u = eqb-true i.field.upper_width 0 q.1 in
    with_none i partial f (no_mask i w u) (nothing_placed i f w u) (free i.rule p.1)
