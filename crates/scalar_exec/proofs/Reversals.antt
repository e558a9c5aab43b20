-- The bits of a word in reverse, by its halves.
use Rattle.std.proofs.Common.{◌≡◌, ℕ, ◌+◌, ◌-◌, ◌*◌, ◌/◌, ◌%◌, ◌^◌, ◌<◌, sym, ap, ◌∙◌, arith}
use Rattle.std.proofs.Common.{inl, inr, true, false}
use Rattle.std.proofs.lemmas.Bool.{cases_lt}
use Rattle.std.proofs.lemmas.Nat.Bits.{bit_at-lt, bit_at_cat_low, bit_at_cat_high}
use Rattle.bit_ops.specs.Bits.{digit_at}
use Rattle.bit_ops.specs.Reversals.{reversed_bits}
use Rattle.bit_ops.proofs.Digits.{number-lt, number-is, bit_of_number}

narrow-lt : (n : ℕ) → reversed_bits false n < 2 ^ 32
unfolding reversed_bits
narrow-lt n = number-lt (λ i. digit_at 2 n (32 - 1 - i)) 32 (λ i lt. bit_at-lt n (32 - 1 - i))

narrow-bit : (n i : ℕ) → i < 32 → digit_at 2 (reversed_bits false n) i ≡ digit_at 2 n (32 - 1 - i)
unfolding reversed_bits
narrow-bit n i lt =
    bit_of_number (λ j. digit_at 2 n (32 - 1 - j)) 32 (λ j l. bit_at-lt n (32 - 1 - j)) i lt

-- the lower half goes to the upper one
halves-bit : (a b i : ℕ) → b < 2 ^ 32 → i < 64
    → digit_at 2 (reversed_bits false b * 2 ^ 32 + reversed_bits false a) i
    ≡ digit_at 2 (a * 2 ^ 32 + b) (64 - 1 - i)
halves-bit a b i low lt =
    elim (cases_lt i 32) [
      | inl under ↦
          let at : 32 - 1 - i ≡ 64 - 1 - i - 32 = omega arith in
          bit_at_cat_low (reversed_bits false b) 32 (reversed_bits false a) i under ∙ narrow-bit a i under
          ∙ ap (digit_at 2 a) at ∙ sym (bit_at_cat_high a 32 b (64 - 1 - i) low (omega arith))
      | inr over ↦
          let at : 32 - 1 - (i - 32) ≡ 64 - 1 - i = omega arith in
          bit_at_cat_high (reversed_bits false b) 32 (reversed_bits false a) i (narrow-lt a) over
          ∙ narrow-bit b (i - 32) (omega arith) ∙ ap (digit_at 2 b) at
          ∙ sym (bit_at_cat_low a 32 b (64 - 1 - i) (omega arith))
    ]

pub reversed-halves : (n : ℕ) → n < 2 ^ 64
    → reversed_bits false (n % 2 ^ 32) * 2 ^ 32 + reversed_bits false (n / 2 ^ 32 % 2 ^ 32)
    ≡ reversed_bits true n
unfolding reversed_bits
reversed-halves n lt =
    let a = n / 2 ^ 32 % 2 ^ 32 in
    let b = n % 2 ^ 32 in
    let upper = narrow-lt b in
    let lower = narrow-lt a in
    let whole : a * 2 ^ 32 + b ≡ n = omega arith in
    number-is (λ i. digit_at 2 n (64 - 1 - i)) 64 (reversed_bits false b * 2 ^ 32 + reversed_bits false a)
    (omega arith) (λ i l. bit_at-lt n (64 - 1 - i))
    (λ i l. halves-bit a b i (omega arith) l ∙ ap (λ m. digit_at 2 m (64 - 1 - i)) whole)
