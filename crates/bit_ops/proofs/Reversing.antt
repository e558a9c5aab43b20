-- Bits in reverse.
use Rattle.std.proofs.Common.{◌≡◌, ℕ, zero, suc, ◌+◌, ◌-◌, ◌*◌, ◌/◌, ◌%◌, ◌^◌, sym, ap, ◌∙◌, arith, true, false}
use Rattle.std.proofs.Math.Nat.{pow-suc}
use Rattle.std.specs.Int.{reverse_bits_onto}
use Rattle.std.proofs.lemmas.Nat.Bits.{bit_at-suc, bit_at_lowest}
use Rattle.std.specs.Int.{reverse_bits, w32, w64}
use Rattle.bit_ops.specs.Bits.{digit_at, number_of_digits}
use Rattle.bit_ops.specs.Reversals.{reversed_bits}
use Rattle.bit_ops.proofs.Digits.{number-same}

regroup : (a b p q r : ℕ) → q ≡ p * 2 → (a * 2 + b) * p + r ≡ a * q + (r + b * p)
regroup a b p q r e = rw e (grind arith)

-- so many bits, taken from the lowest on, are put below what is there
pub reversed_onto : (k n a : ℕ) → reverse_bits_onto k n a ≡ a * 2 ^ k + number_of_digits 2 (λ i. digit_at 2 n (k - 1 - i)) k
unfolding reverse_bits_onto number_of_digits
reversed_onto zero n a = omega arith
reversed_onto (suc k) n a =
    let rest = reversed_onto k (n / 2) (a * 2 + n % 2) in
    let same = number-same 2 (λ i. digit_at 2 (n / 2) (k - 1 - i)) (λ i. digit_at 2 n (suc k - 1 - i)) k
    (λ i lt. let e : suc k - 1 - i ≡ suc (k - 1 - i) = omega arith in sym (ap (digit_at 2 n) e ∙ bit_at-suc n (k - 1 - i))) in
    let z : suc k - 1 - k ≡ 0 = omega arith in
    let low : digit_at 2 n (suc k - 1 - k) ≡ n % 2 = ap (digit_at 2 n) z ∙ bit_at_lowest n in
    let power = pow-suc 2 k in
    rest ∙ ap (λ m. (a * 2 + n % 2) * 2 ^ k + m) same ∙ regroup a (n % 2) (2 ^ k) (2 ^ suc k) _ power
    ∙ ap (λ b. a * 2 ^ suc k + (number_of_digits 2 (λ i. digit_at 2 n (suc k - 1 - i)) k + b * 2 ^ k)) (sym low)

onto_zero : (k n : ℕ) → reverse_bits_onto k n 0 ≡ number_of_digits 2 (λ i. digit_at 2 n (k - 1 - i)) k
onto_zero k n = reversed_onto k n 0 ∙ omega arith

-- std's `reverse_bits`
pub reversed_wide : (n : ℕ) → reverse_bits w64 n ≡ reversed_bits true n
unfolding reversed_bits
reversed_wide n = onto_zero 64 n

pub reversed_narrow : (n : ℕ) → reverse_bits w32 n ≡ reversed_bits false n
unfolding reversed_bits
reversed_narrow n = onto_zero 32 n
