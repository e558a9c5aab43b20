-- How many elements the patterns of instructions name.
-- Source: DDI 0487, J1.1: DecodePredCount, FloorPow2.
use Rattle.std.specs.Prelude.{ℕ, ◌≡◌, ◌-◌, ◌*◌, ◌%◌, ◌^◌, ◌==◌, ◌<◌, ◌≤◌, nat_lt, if◌then◌else◌}
use Rattle.std.specs.Int.Count.{count_leading_zeros}

-- FloorPow2: the greatest power of 2 up to a number of 64 bits, and 0 where there is none
unfoldable pub floor_power : ℕ → ℕ
floor_power count = if count == 0 then 0 else 2 ^ (63 - count_leading_zeros 64 count)

-- a power of 2 that is not above a number, and the greatest such, as twice it is above
pub record IsFloorPower (count power : ℕ) : Type 0 where
  pub is_power : (exponent : ℕ) × (power ≡ 2 ^ exponent)
  pub within : power ≤ count
  pub greatest : count < 2 * power

-- a number of elements, and none where there are fewer
unfoldable pub number_or_none : ℕ → ℕ → ℕ
number_or_none number count = if nat_lt count number then 0 else number

-- POW2; VL1 to VL8; VL16, VL32, VL64, VL128, VL256; MUL4, MUL3, ALL; the others name none
unfoldable pub pattern_count : ℕ → ℕ → ℕ
pattern_count pattern count =
    if pattern == 0 then floor_power count
    else if nat_lt pattern 9 then number_or_none pattern count
    else if nat_lt pattern 14 then number_or_none (2 ^ (pattern - 5)) count
    else if pattern == 29 then count - count % 4
    else if pattern == 30 then count - count % 3
    else if pattern == 31 then count
    else 0
