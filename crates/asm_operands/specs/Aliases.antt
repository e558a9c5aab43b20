-- The numbers that the fields of aliases stand for: `mov` by a halfword, `lsl` by a number.
-- Source: DDI 0487, C6.2: MOV (wide immediate), MOV (inverted wide immediate), LSL (immediate).
use Rattle.std.specs.Prelude.{◌≡◌, ℕ, ◌+◌, ◌*◌, ◌/◌, ◌%◌, ◌^◌, Bool}
use Rattle.bit_ops.specs.Bits.{width_of}
use Rattle.asm_operands.specs.Fields.{shift_bits}

-- hw above imm16: the number that has the halfword at its place, and zeros
abbrev pub halfword_number : ℕ → ℕ
halfword_number field = field % 65536 * 2 ^ (16 * (field / 65536))

-- immr above imms of `ubfm`: the highest bit that stays and the amount make up the width, and so do the
-- rotation and the amount, or both are 0
pub record IsShiftLeft (wide : Bool) (amount field : ℕ) : Type 0 where
  pub imms : field % 2 ^ shift_bits wide + 1 + amount ≡ width_of wide
  pub immr : (field / 2 ^ shift_bits wide + amount) % width_of wide ≡ 0
