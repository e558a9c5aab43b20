-- Masks of the logical instructions: equal elements, each a run of ones that is rotated.
-- Source: DDI 0487, J1.1, DecodeBitMasks. Words are of 64 bits where `wide` holds, else of 32.
use Rattle.std.specs.Prelude.{◌≡◌, ℕ, zero, suc, ◌+◌, ◌-◌, ◌*◌, ◌%◌, ◌^◌, ◌≤◌, ◌<◌, ◌↔◌, Bool, not, ◌&&◌}
use Rattle.std.specs.Prelude.{◌||◌, ◌==◌, nat_le, nat_lt, if◌then◌else◌, Option, Some, None}
use Rattle.bit_ops.specs.Sums.{bool_number}
use Rattle.bit_ops.specs.Bits.{width_of, digit_at, number_of_digits}

-- HighestSetBit: the place of the highest one below place `limit`, and 0 where there is none
unfoldable pub highest_one : ℕ → ℕ → ℕ
highest_one zero n = 0
highest_one (suc limit) n = if nat_le (2 ^ limit) n then limit else highest_one limit n

-- len: the place of the highest one in the seven bits N, NOT(imms); imms has six bits, and what stands above
-- them is not read
unfoldable pub length_of : Bool → ℕ → ℕ
length_of n imms = highest_one 7 (bool_number n * 64 + (63 - imms % 64))

-- how many bits an element has
abbrev pub size_of : Bool → ℕ → ℕ
size_of n imms = 2 ^ length_of n imms

-- S: one less than the ones of an element
abbrev pub ones_of : Bool → ℕ → ℕ
ones_of n imms = imms % size_of n imms

-- R: how far an element is rotated to the right
abbrev pub turn_of : Bool → ℕ → ℕ → ℕ
turn_of n imms immr = immr % size_of n imms

-- no mask has these fields: elements of 64 bits in words of 32, elements of one bit or none, or no zero in an
-- element
unfoldable pub is_reserved : Bool → ℕ → Bool → Bool
is_reserved n imms wide = (n && not wide) || (length_of n imms == 0) || (ones_of n imms == size_of n imms - 1)

-- the fields in which a mask is written: they are not reserved, and immr has no bits above R
unfoldable pub are_mask_fields : Bool → ℕ → ℕ → Bool → Bool
are_mask_fields n imms immr wide = not (is_reserved n imms wide) && nat_lt immr (size_of n imms)

-- bit i of the mask is bit i + R of the run of S + 1 ones, within elements
unfoldable pub mask_of : Bool → ℕ → ℕ → Bool → ℕ
mask_of n imms immr wide =
    number_of_digits 2 (λ i. bool_number (nat_le ((i + turn_of n imms immr) % size_of n imms)
    (ones_of n imms))) (width_of wide)

-- the mask of the fields, if they have one
unfoldable pub bit_mask_of : Bool → ℕ → ℕ → Bool → Option ℕ
bit_mask_of n imms immr wide = if is_reserved n imms wide then None else Some (mask_of n imms immr wide)

-- the same as facts: each bit of the mask, and none above the word
pub record IsMask (n : Bool) (imms immr : ℕ) (wide : Bool) (mask : ℕ) : Type 0 where
  pub within : mask < 2 ^ width_of wide
  pub bits :
      (i : ℕ) → i < width_of wide → (digit_at 2 mask i ≡ 1) ↔
      ((i + turn_of n imms immr) % size_of n imms ≤ ones_of n imms)

-- the fields in which a mask is written: they give it, and immr is below the size of an element
pub record IsFieldsOf (n : Bool) (imms immr : ℕ) (wide : Bool) (mask : ℕ) : Type 0 where
  pub imms_in_range : imms < 64
  pub immr_in_range : immr < size_of n imms
  pub given : bit_mask_of n imms immr wide ≡ Some mask

-- a run of ones starts at a place of a word of so many bits: a one stands there, and a zero below it, round
-- the end of the word
unfoldable pub starts_at : ℕ → ℕ → ℕ → Bool
starts_at word width i = (digit_at 2 word i == 1) && (digit_at 2 word ((i + (width - 1)) % width) == 0)
