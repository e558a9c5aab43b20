-- Shifts and rotations of a word by less than its width, over unbounded numbers.
-- Source: DDI 0487, J1.1, ShiftReg: LSL, LSR, ASR and ROR. Words are of 64 bits where `wide` holds, else of
-- 32.
use Rattle.std.specs.Prelude.{ℕ, ◌+◌, ◌-◌, ◌*◌, ◌/◌, ◌%◌, ◌^◌, Bool, ℤ, pos, unsigned_abs}
use Rattle.std.specs.Int.{int_div_euclid, int_rem_euclid}
use Rattle.bit_ops.specs.Sums.{word_size, signed_word}
use Rattle.bit_ops.specs.Bits.{width_of}
use Rattle.bit_ops.specs.declared.shifts.ShiftKind.{ShiftKind}
use Rattle.bit_ops.specs.declared.shifts.ShiftKind.TheVariants.{Lsl, Lsr, Asr, Ror}

-- a number as a word in two's complement: its low bits
abbrev pub word_of : Bool → ℤ → ℕ
word_of wide z = unsigned_abs (int_rem_euclid z (pos (word_size wide)))

-- the word, shifted: `/` rounds down, and so does int_div_euclid by a positive number
unfoldable pub shifted : ShiftKind → Bool → ℕ → ℕ → ℕ
shifted Lsl wide n amount = n * 2 ^ amount % word_size wide
shifted Lsr wide n amount = n / 2 ^ amount
shifted Asr wide n amount = word_of wide (int_div_euclid (signed_word wide n) (pos (2 ^ amount)))
shifted Ror wide n amount = n / 2 ^ amount + n % 2 ^ amount * 2 ^ (width_of wide - amount)
