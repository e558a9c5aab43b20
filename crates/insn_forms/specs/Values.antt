-- The number of a field as an instruction keeps it.
-- Source: DDI 0487, C4: fields without a sign, single bits, and fields in two's complement.
use Rattle.std.specs.Prelude.{ℕ, ◌-◌, ◌%◌, ◌^◌, ◌==◌, Bool, ℤ, pos, ◌-ℤ◌, ◌≤ℤ◌, ◌<ℤ◌}

-- a number as so many bits keep it
abbrev pub byte : ℕ → ℕ
byte n = n % 2 ^ 8

abbrev pub half : ℕ → ℕ
half n = n % 2 ^ 16

-- the truth value of a bit
abbrev pub is_one : ℕ → Bool
is_one n = n == 1

-- a number of so many bits in two's complement
pub record IsSigned (width : ℕ) (number : ℤ) : Type 0 where
  pub low : (pos 0 -ℤ pos (2 ^ (width - 1))) ≤ℤ number
  pub high : number <ℤ pos (2 ^ (width - 1))
