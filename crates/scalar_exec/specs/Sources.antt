-- Data processing of one, two and three registers. Source: DDI 0487, C6.2: RBIT, REV16, REV32, REV, CLZ,
-- CLS, UDIV, SDIV, LSLV, LSRV, ASRV, RORV, MADD, MSUB, SMADDL, SMSUBL, UMADDL, UMSUBL, SMULH, UMULH.
use Rattle.std.specs.Prelude.{ℕ, ◌+◌, ◌-◌, ◌*◌, ◌/◌, ◌%◌, ◌^◌, ◌==◌, Bool, true, false, cond, pos, ◌*ℤ◌}
use Rattle.std.specs.Prelude.{int_div}
use Rattle.std.specs.Int.{w64, cast_unsigned, int_div_euclid}
use Rattle.sm_types.specs.declared.scalars.Scalars.{Scalars}
use Rattle.sm_types.specs.declared.insn.OneSourceOp.{OneSourceOp}
use Rattle.sm_types.specs.declared.insn.OneSourceOp.TheVariants.{Rbit, Rev16, Rev32, Rev64, Clz, Cls}
use Rattle.sm_types.specs.declared.insn.OneSource.{OneSource}
use Rattle.sm_types.specs.declared.insn.TwoSourceOp.{TwoSourceOp}
use Rattle.sm_types.specs.declared.insn.TwoSourceOp.TheVariants.{Udiv, Sdiv, Lslv, Lsrv, Asrv, Rorv}
use Rattle.sm_types.specs.declared.insn.TwoSource.{TwoSource}
use Rattle.sm_types.specs.declared.insn.Multiply.{Multiply}
use Rattle.sm_types.specs.declared.insn.Multiply.TheVariants.{Same, Long, High}
use Rattle.bit_ops.specs.declared.shifts.ShiftKind.TheVariants as shift
use Rattle.bit_ops.specs.Sums.{word_size, signed_word}
use Rattle.bit_ops.specs.Bits.{width_of}
use Rattle.bit_ops.specs.Shifts.{shifted, word_of}
use Rattle.bit_ops.specs.Reversals.{reversed_bits, reversed_bytes}
use Rattle.bit_ops.specs.Counts.{leading_zeros_of, leading_signs_of}
use Rattle.scalar_exec.specs.Registers.{register_of, with_x}

-- the bits of the word or the bytes of its groups in reverse, or a count from its top
unfoldable pub one_source_value : OneSourceOp → Bool → ℕ → ℕ
one_source_value Rbit wide n = reversed_bits wide n
one_source_value Rev16 wide n = reversed_bytes 2 wide n
one_source_value Rev32 wide n = reversed_bytes 4 wide n
one_source_value Rev64 wide n = reversed_bytes 8 wide n
one_source_value Clz wide n = leading_zeros_of wide n
one_source_value Cls wide n = leading_signs_of wide n

-- one source
unfoldable pub one_source : OneSource → Scalars → Scalars
one_source x s = with_x s x.rd (one_source_value x.op x.wide (register_of x.wide s x.rn))

-- the quotient of two words, rounded towards zero; 0 where the divisor is 0
unfoldable pub quotient : ℕ → ℕ → ℕ
quotient n m = cond (m == 0) 0 (n / m)

-- the same of signed words, within the word: the least number over -1 is the least number
unfoldable pub signed_quotient : Bool → ℕ → ℕ → ℕ
signed_quotient wide n m = cond (m == 0) 0 (word_of wide (int_div (signed_word wide n) (signed_word wide m)))

-- a quotient, or the first word shifted by the second, modulo the width
unfoldable pub two_source_value : TwoSourceOp → Bool → ℕ → ℕ → ℕ
two_source_value Udiv wide n m = quotient n m
two_source_value Sdiv wide n m = signed_quotient wide n m
two_source_value Lslv wide n m = shifted shift.Lsl wide n (m % width_of wide)
two_source_value Lsrv wide n m = shifted shift.Lsr wide n (m % width_of wide)
two_source_value Asrv wide n m = shifted shift.Asr wide n (m % width_of wide)
two_source_value Rorv wide n m = shifted shift.Ror wide n (m % width_of wide)

-- two sources
unfoldable pub two_source : TwoSource → Scalars → Scalars
two_source x s =
    with_x s x.rd (two_source_value x.op x.wide (register_of x.wide s x.rn) (register_of x.wide s x.rm))

-- the accumulator plus or less a product that is a word, within the word
unfoldable pub accumulated : Bool → Bool → ℕ → ℕ → ℕ
accumulated true wide a product = (a + (word_size wide - product)) % word_size wide
accumulated false wide a product = (a + product) % word_size wide

-- the product of two words of 32 bits as a word of 64, signed or not
unfoldable pub long_product : Bool → ℕ → ℕ → ℕ
long_product true n m = cast_unsigned w64 (signed_word false n *ℤ signed_word false m)
long_product false n m = n * m

-- the upper 64 bits of the product of two words of 64 bits, signed or not
unfoldable pub high_product : Bool → ℕ → ℕ → ℕ
high_product true n m =
    cast_unsigned w64 (int_div_euclid (signed_word true n *ℤ signed_word true m) (pos (2 ^ 64)))
high_product false n m = n * m / 2 ^ 64

-- three sources
unfoldable pub multiply : Multiply → Scalars → Scalars
multiply (Same subtract wide rm ra rn rd) s =
    with_x s rd (accumulated subtract wide (register_of wide s ra)
    (register_of wide s rn * register_of wide s rm % word_size wide))
multiply (Long subtract signed rm ra rn rd) s =
    with_x s rd (accumulated subtract true (register_of true s ra)
    (long_product signed (register_of false s rn) (register_of false s rm)))
multiply (High signed rm rn rd) s =
    with_x s rd (high_product signed (register_of true s rn) (register_of true s rm))
