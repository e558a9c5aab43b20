-- The bits of a word, and the bytes of its groups, in reverse.
-- Source: DDI 0487, C6.2, RBIT (BitReverse), REV16, REV32 and REV (Reverse). Words are of 64 bits where
-- `wide` holds, else of 32.
use Rattle.std.specs.Prelude.{ℕ, ◌+◌, ◌-◌, ◌*◌, ◌/◌, ◌%◌, Bool}
use Rattle.bit_ops.specs.Bits.{width_of, digit_at, number_of_digits}

-- bit i of the result is bit width - 1 - i
unfoldable pub reversed_bits : Bool → ℕ → ℕ
reversed_bits wide n = number_of_digits 2 (λ i. digit_at 2 n (width_of wide - 1 - i)) (width_of wide)

-- the place opposite to a place in its group
abbrev pub opposite : ℕ → ℕ → ℕ
opposite group place = place / group * group + (group - 1 - place % group)

-- each byte of the result is the one that stood opposite to it in its group of so many bytes
unfoldable pub reversed_bytes : ℕ → Bool → ℕ → ℕ
reversed_bytes group wide n =
    number_of_digits 256 (λ p. digit_at 256 n (opposite group p)) (width_of wide / 8)
