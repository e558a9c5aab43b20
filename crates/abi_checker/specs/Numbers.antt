-- How many numbers are so.
use Rattle.std.specs.Prelude.{◌≡◌, ℕ, zero, suc, ◌⊎◌}

-- of the numbers below n so many are so
abbrev pub NumberOf : (ℕ → Type 0) → ℕ → ℕ → Type 0
NumberOf P zero count = count ≡ 0
NumberOf P (suc n) count =
    (P n × (before : ℕ) × NumberOf P n before × (count ≡ suc before)) ⊎ (¬ P n × NumberOf P n count)
