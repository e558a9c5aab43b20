-- A word of 64 bits is its own low part.
use Rattle.std.proofs.Common.{◌≡◌, ℕ, ◌%◌, ◌^◌, ◌<◌, Bool, true, false, sym, subst, mod-eq_of_lt}
use Rattle.bit_ops.specs.Sums.{word_size}

-- what holds of two wide words holds of their low parts
pub low_parts : (P : Bool → ℕ → ℕ → Type 0) (wide : Bool) (a b : ℕ) → wide ≡ true → a < 2 ^ 64 → b < 2 ^ 64 → P true a b
    → P wide (a % word_size wide) (b % word_size wide)
low_parts P true a b e la lb h =
    subst (λ x. P true x (b % 2 ^ 64)) (sym (mod-eq_of_lt la)) (subst (λ y. P true a y) (sym (mod-eq_of_lt lb)) h)
low_parts P false a b e la lb h = cc

-- what holds of a wide word holds of its low part
pub low_wide : (P : Bool → ℕ → Type 0) (wide : Bool) (a : ℕ) → wide ≡ true → a < 2 ^ 64 → P true a → P wide (a % word_size wide)
low_wide P true a e la h = subst (P true) (sym (mod-eq_of_lt la)) h
low_wide P false a e la h = cc

-- what holds of the low 32 bits holds of the low part of a narrow word
pub low_narrow : (P : Bool → ℕ → Type 0) (wide : Bool) (a : ℕ) → wide ≡ false → P false (a % 2 ^ 32) → P wide (a % word_size wide)
low_narrow P true a e h = cc
low_narrow P false a e h = h
