-- Cases of two numbers, halves of a power of two, and differences as signed numbers.
use Rattle.std.proofs.Common.{◌≡◌, ◌⊎◌, ℕ, ℤ, zero, suc, pos, negsuc, ◌-ℤ◌, ◌+ℤ◌, ◌+◌, ◌-◌, ◌^◌, ◌<◌, ◌≤◌, refl, sym, ap, ◌∙◌, arith}
use Rattle.std.proofs.lemmas.Int.{ints}
use Rattle.std.proofs.lemmas.Nat.{pow-add}

pub cases_le : (n m : ℕ) → (n ≤ m) ⊎ (m < n)
cases_le n m = grind arith

pub cases_lt_suc : (i n : ℕ) → i < suc n → (i ≡ n) ⊎ (i < n)
cases_lt_suc i n lt = grind arith

-- `lt_trichotomy` in other libraries
pub cases_lt_eq_gt : (m n : ℕ) → (m < n) ⊎ ((m ≡ n) ⊎ (n < m))
cases_lt_eq_gt m n = grind arith

pub two_pow-halves : (n : ℕ) → 0 < n → 2 ^ n ≡ 2 ^ (n - 1) + 2 ^ (n - 1)
two_pow-halves zero some = absurd (omega arith)
two_pow-halves (suc n) some =
    let e : suc n - 1 ≡ n = omega arith in
    let twice : 2 ^ suc n ≡ 2 ^ n + 2 ^ n = omega (arith, pow-add 2 n 1) in
    twice ∙ sym (ap (λ m. 2 ^ m + 2 ^ m) e)

-- ---- signed numbers

pub pos_sub-lt : (a b : ℕ) → a < b → pos a -ℤ pos b ≡ negsuc (b - a - 1)
pos_sub-lt a b lt = grind (arith, ints)

pub pos_sub-le : (a b : ℕ) → b ≤ a → pos a -ℤ pos b ≡ pos (a - b)
pos_sub-le a b le = grind (arith, ints)

pub pos_add_negsuc-le : (a b : ℕ) → a ≤ b → pos a +ℤ negsuc b ≡ negsuc (b - a)
pos_add_negsuc-le a b le = grind (arith, ints)

pub pos_add_negsuc-lt : (a b : ℕ) → b < a → pos a +ℤ negsuc b ≡ pos (a - b - 1)
pos_add_negsuc-lt a b lt = grind (arith, ints)
