-- Lengths of runs.
use Rattle.std.proofs.Common.{◌≡◌, ℕ, zero, suc, ◌+◌, ◌-◌, ◌*◌, ◌^◌, ◌<◌, ◌≤◌, ◌==◌, refl, sym, ap, ◌∙◌, subst, arith, Bool, true, false}
use Rattle.std.proofs.lemmas.Bool.Decides.{nat_tests}
use Rattle.std.proofs.lemmas.Nat.{leading_le, leading_top}
use Rattle.std.proofs.lemmas.Nat.Bits.{bit_at_above, bit_at-zero, bit_at_cat_high}
use Rattle.bit_ops.specs.Bits.{digit_at, run_length}
use lib.Count.{count_leading_zeros}
use Rattle.std.specs.Int.{leading_zeros, w32, w64}
use Rattle.bit_ops.specs.Counts.{leading_zeros_of}

-- the run ends at the first number that fails
pub run-is : (test : ℕ → Bool) (limit count : ℕ) → count ≤ limit → ((i : ℕ) → i < count → test i ≡ true)
    → (count < limit → test count ≡ false) → run_length test limit ≡ count
unfolding run_length
run-is test zero count le on off = omega arith
run-is test (suc limit) zero le on off = rw (off (omega arith)) refl
run-is test (suc limit) (suc count) le on off =
    rw (on 0 (omega arith)) (ap suc (run-is (λ i. test (suc i)) limit count (omega arith) (λ i lt. on (suc i) (omega arith))
    (λ lt. off (omega arith))))

pub is_zero : (a : ℕ) → a ≡ 0 → (a == 0) ≡ true
is_zero a e = grind (arith, nat_tests)

is_not_zero : (a : ℕ) → a ≡ 1 → (a == 0) ≡ false
is_not_zero a e = grind (arith, nat_tests)

pub top_bit : (j a : ℕ) → 2 ^ j ≤ a → a < 2 ^ suc j → digit_at 2 a j ≡ 1
top_bit j a le lt =
    let power : 2 ^ suc j ≡ 2 ^ j * 2 = grind arith in
    let rest : ℕ = a - 2 ^ j in
    let sum : a ≡ 1 * 2 ^ j + (a - 2 ^ j) = omega arith in
    let high = bit_at_cat_high 1 j (a - 2 ^ j) j (omega arith) (omega arith) in
    let z : j - j ≡ 0 = omega arith in
    ap (λ n. digit_at 2 n j) sum ∙ high ∙ ap (digit_at 2 1) z

all_zeros : (k : ℕ) → count_leading_zeros k 0 ≡ k
unfolding count_leading_zeros
all_zeros zero = refl
all_zeros (suc k) = refl

-- leading zeros, as a run of zeros from the top
pub leading_run : (k n : ℕ) → n < 2 ^ k → run_length (λ i. digit_at 2 n (k - 1 - i) == 0) k ≡ count_leading_zeros k n
leading_run k zero lt =
    run-is (λ i. digit_at 2 0 (k - 1 - i) == 0) k (count_leading_zeros k 0) (leading_le k 0)
    (λ i l. is_zero _ (bit_at-zero (k - 1 - i)))
    (λ l. absurd (let e = all_zeros k in omega arith))
leading_run k (suc m) lt =
    let top = leading_top k (suc m) (omega arith) lt in
    let at = top.1 in
    run-is (λ i. digit_at 2 (suc m) (k - 1 - i) == 0) k (count_leading_zeros k (suc m)) (omega arith)
    (λ i l. is_zero _ (bit_at_above (suc m) (suc top.0) (k - 1 - i) top.3 (omega arith)))
    (λ l. is_not_zero _ (let e : top.0 ≡ k - 1 - count_leading_zeros k (suc m) = omega arith in
    subst (λ p. digit_at 2 (suc m) p ≡ 1) e (top_bit top.0 (suc m) top.2 top.3)))

-- std's `leading_zeros`
pub zeros_wide : (n : ℕ) → n < 2 ^ 64 → leading_zeros w64 n ≡ leading_zeros_of true n
unfolding leading_zeros_of
zeros_wide n lt = sym (leading_run 64 n lt)

pub zeros_narrow : (n : ℕ) → n < 2 ^ 32 → leading_zeros w32 n ≡ leading_zeros_of false n
unfolding leading_zeros_of
zeros_narrow n lt = sym (leading_run 32 n lt)
