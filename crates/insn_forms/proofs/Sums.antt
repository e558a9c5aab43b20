-- Words as sums of their fields.
use Rattle.std.proofs.Common.{◌≡◌, ℕ, mod-eq_of_lt, ◌+◌, ◌-◌, ◌*◌, ◌/◌, ◌%◌, ◌^◌, ◌<◌, bit_and, sym, ap, ◌∙◌, arith}
use Rattle.std.proofs.lemmas.Nat.{shr_split, shr-shr, and_shr, and_mod, and_mask, mod_below, pow_pos}
use Rattle.insn_forms.specs.Fields.{field_of, field_in}

-- the bits from `low` on are the first few of them and the others
pub split : (w low n : ℕ) → w / 2 ^ low ≡ w / 2 ^ (low + n) * 2 ^ n + field_of w low n
unfolding field_of
split w low n = sym (shr_split (w / 2 ^ low) n) ∙ ap (λ m. m * 2 ^ n + w / 2 ^ low % 2 ^ n) (shr-shr w low n)

pub field_below : (w low n : ℕ) → field_of w low n < 2 ^ n
unfolding field_of
field_below w low n = mod_below (w / 2 ^ low) (2 ^ n) (pow_pos n)

-- a field that the mask fixes whole
pub fixed_field : (w mask value low n : ℕ) → bit_and w mask ≡ value → field_of mask low n ≡ 2 ^ n - 1
    → field_of w low n ≡ field_of value low n
unfolding field_of
fixed_field w mask value low n m whole =
    let f = w / 2 ^ low % 2 ^ n in
    let small : f % 2 ^ n ≡ f = mod-eq_of_lt (field_below w low n) in
    sym (ap (λ v. v / 2 ^ low % 2 ^ n) (sym m)
    ∙ ap (λ v. v % 2 ^ n) (and_shr w mask low)
    ∙ and_mod (w / 2 ^ low) (mask / 2 ^ low) n
    ∙ ap (bit_and f) whole ∙ and_mask f n ∙ small)

mod_one : (n : ℕ) → n % 1 ≡ 0
mod_one n = omega arith

-- a field of one run of bits is that run
pub plain : (low width w : ℕ) → field_in (record { low = low; width = width; upper_low = 0; upper_width = 0 }) w ≡ field_of w low width
unfolding field_in field_of
plain low width w =
    ap (λ n. n * 2 ^ width + w / 2 ^ low % 2 ^ width) (mod_one (w / 2 ^ 0))
    ∙ (let z : 0 * 2 ^ width + w / 2 ^ low % 2 ^ width ≡ w / 2 ^ low % 2 ^ width = omega arith in z)
