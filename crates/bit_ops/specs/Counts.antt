-- Counts from the top of a word.
-- Source: DDI 0487, J1.1, CountLeadingZeroBits and CountLeadingSignBits. Words are of 64 bits where `wide`
-- holds, else of 32.
use Rattle.std.specs.Prelude.{ℕ, ◌-◌, ◌==◌, Bool}
use Rattle.bit_ops.specs.Bits.{width_of, digit_at, run_length}

-- the zeros from the top bit down to the highest one; all bits where there is none
unfoldable pub leading_zeros_of : Bool → ℕ → ℕ
leading_zeros_of wide n = run_length (λ i. digit_at 2 n (width_of wide - 1 - i) == 0) (width_of wide)

-- the bits below the top bit, from it down, that equal it without a break
unfoldable pub leading_signs_of : Bool → ℕ → ℕ
leading_signs_of wide n =
    run_length (λ i. digit_at 2 n (width_of wide - 2 - i) == digit_at 2 n (width_of wide - 1))
    (width_of wide - 1)
