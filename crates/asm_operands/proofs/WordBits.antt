-- The bits of a word that an operand's field is, and those that a rule looks at.
use Rattle.std.proofs.Common.{◌≡◌, ℕ, ◌*◌, ◌/◌, ◌%◌, ◌^◌, ◌==◌, ◌&&◌, ◌||◌, not, Bool, true, bit_and, refl, sym, ap, ap₂, ◌∙◌, eqb-true}
use Rattle.std.proofs.lemmas.Bool.{and_parts}
use Rattle.std.proofs.lemmas.Nat.{and_assoc, and_comm, shl-shr}
use Rattle.insn_forms.specs.Fields as fields
use Rattle.insn_forms.specs.Fields.{field_of}
use Rattle.insn_forms.proofs.Bits.{field_masked}
use Rattle.insn_text.specs.declared.item.Item.{Item}
use Rattle.insn_text.specs.declared.item.Rule.{Rule}
use Rattle.insn_text.specs.declared.item.Rule.TheVariants.{Free, SecondApart, BaseApart, BasePairApart, OffsetGiven}
use Rattle.insn_text.specs.Rules.{meets}

-- ---- words by their bits
pub and_swap : (w m n : ℕ) → bit_and (bit_and w m) n ≡ bit_and (bit_and w n) m
and_swap w m n = and_assoc n w m ∙ ap (bit_and w) (and_comm m n) ∙ sym (and_assoc m w n)

-- ---- an operand's field
abbrev pub upper_mask : Item → ℕ
upper_mask i = fields.upper_mask i.field

abbrev pub lower_mask : Item → ℕ
lower_mask i = fields.lower_mask i.field

-- ---- the registers that a rule looks at
-- the mask has the five bits of the register
unfoldable pub has_register : ℕ → ℕ → Bool
has_register low mask = bit_and mask (31 * 2 ^ low) == 31 * 2 ^ low

unfoldable pub covers : Rule → ℕ → Bool
covers Free mask = true
covers SecondApart mask = has_register 0 mask && has_register 10 mask
covers BaseApart mask = has_register 5 mask && has_register 0 mask
covers BasePairApart mask = has_register 5 mask && has_register 0 mask && has_register 10 mask
covers OffsetGiven mask = has_register 16 mask

register-kept : (low w mask : ℕ) → has_register low mask ≡ true → field_of (bit_and w mask) low 5 ≡ field_of w low 5
unfolding field_of has_register
register-kept low w mask e =
    let kept : bit_and mask (31 * 2 ^ low) ≡ 31 * 2 ^ low = eqb-true (bit_and mask (31 * 2 ^ low)) (31 * 2 ^ low) e in
    let same : bit_and (bit_and w mask) (31 * 2 ^ low) ≡ bit_and w (31 * 2 ^ low) = and_assoc (31 * 2 ^ low) w mask ∙ ap (bit_and w) kept in
    let shifted : bit_and w mask / 2 ^ low % 2 ^ 5 * 2 ^ low ≡ w / 2 ^ low % 2 ^ 5 * 2 ^ low =
    field_masked (bit_and w mask) 5 low ∙ same ∙ sym (field_masked w 5 low) in
    sym (shl-shr (bit_and w mask / 2 ^ low % 2 ^ 5) low) ∙ ap (λ n. n / 2 ^ low) shifted ∙ shl-shr (w / 2 ^ low % 2 ^ 5) low

pub meets-kept : (r : Rule) (w mask : ℕ) → covers r mask ≡ true → meets r (bit_and w mask) ≡ meets r w
unfolding meets covers
meets-kept Free w mask e = refl
meets-kept SecondApart w mask e =
    let p = and_parts (has_register 0 mask) (has_register 10 mask) e in
    ap₂ (λ a b. not (a == b)) (register-kept 0 w mask p.0) (register-kept 10 w mask p.1)
meets-kept BaseApart w mask e =
    let p = and_parts (has_register 5 mask) (has_register 0 mask) e in
    ap₂ (λ a b. (a == 31) || not (a == b)) (register-kept 5 w mask p.0) (register-kept 0 w mask p.1)
meets-kept BasePairApart w mask e =
    let p = and_parts (has_register 5 mask && has_register 0 mask) (has_register 10 mask) e in
    let q = and_parts (has_register 5 mask) (has_register 0 mask) p.0 in
    ap₂ (λ a b. ((a == 31) || not (a == b)) && ((a == 31) || not (a == field_of (bit_and w mask) 10 5))) (register-kept 5 w mask q.0)
    (register-kept 0 w mask q.1)
    ∙ ap (λ b. ((field_of w 5 5 == 31) || not (field_of w 5 5 == field_of w 0 5)) && ((field_of w 5 5 == 31) || not (field_of w 5 5 == b)))
    (register-kept 10 w mask p.1)
meets-kept OffsetGiven w mask e = ap (λ a. not (a == 31)) (register-kept 16 w mask e)
