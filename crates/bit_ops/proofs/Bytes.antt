-- Bytes in reverse.
use Rattle.std.proofs.Common.{◌≡◌, ℕ, ◌^◌, ◌<◌, arith, refl, Bool, true, false}
use Rattle.std.proofs.lemmas.Nat.{mod_below}
use Rattle.std.specs.Int.{swap_bytes, w64}
use Rattle.bit_ops.specs.Bits.{digit_at, number_of_digits}
use Rattle.bit_ops.specs.Reversals.{opposite, reversed_bytes}
use Rattle.bit_ops.specs.Sums.{word_size}

four_more : (f : ℕ → ℕ) → f 4 ≡ 0 → f 5 ≡ 0 → f 6 ≡ 0 → f 7 ≡ 0 → number_of_digits 256 f 8 ≡ number_of_digits 256 f 4
unfolding number_of_digits
four_more f a b c d = omega arith

-- where the upper half is zero, so is it in groups that do not cross
pub halfwords-low : (wide : Bool) (n : ℕ) → n < word_size wide → reversed_bytes 2 true n ≡ reversed_bytes 2 wide n
unfolding reversed_bytes
halfwords-low true n lt = refl
halfwords-low false n lt = four_more (λ p. digit_at 256 n (opposite 2 p)) (omega arith) (omega arith) (omega arith) (omega arith)

pub words-low : (wide : Bool) (n : ℕ) → n < word_size wide → reversed_bytes 4 true n ≡ reversed_bytes 4 wide n
unfolding reversed_bytes
words-low true n lt = refl
words-low false n lt = four_more (λ p. digit_at 256 n (opposite 4 p)) (omega arith) (omega arith) (omega arith) (omega arith)

-- std's `swap_bytes`
pub swapped : (n : ℕ) → swap_bytes w64 n ≡ reversed_bytes 8 true n
unfolding reversed_bytes number_of_digits
swapped n = omega arith

four_bytes : (f : ℕ → ℕ) → f 0 < 256 → f 1 < 256 → f 2 < 256 → f 3 < 256 → number_of_digits 256 f 4 < 2 ^ 32
unfolding number_of_digits
four_bytes f a b c d = omega arith

eight_bytes : (f : ℕ → ℕ) → f 0 < 256 → f 1 < 256 → f 2 < 256 → f 3 < 256 → f 4 < 256 → f 5 < 256 → f 6 < 256 → f 7 < 256
    → number_of_digits 256 f 8 < 2 ^ 64
unfolding number_of_digits
eight_bytes f a b c d e g h i = omega arith

-- the bytes of a word are a word
pub bytes-lt : (group : ℕ) (wide : Bool) (n : ℕ) → reversed_bytes group wide n < word_size wide
unfolding reversed_bytes
bytes-lt group true n =
    let small : (i : ℕ) → digit_at 256 n (opposite group i) < 256 = λ i. mod_below _ 256 (omega arith) in
    eight_bytes (λ p. digit_at 256 n (opposite group p)) (small 0) (small 1) (small 2) (small 3) (small 4) (small 5) (small 6) (small 7)
bytes-lt group false n =
    let small : (i : ℕ) → digit_at 256 n (opposite group i) < 256 = λ i. mod_below _ 256 (omega arith) in
    four_bytes (λ p. digit_at 256 n (opposite group p)) (small 0) (small 1) (small 2) (small 3)
