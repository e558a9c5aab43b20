-- The second operands of the data processing instructions.
-- Source: DDI 0487, J1.1, ShiftReg and ExtendReg. Words are of 64 bits where `wide` holds, else of 32.
use Rattle.std.specs.Prelude.{ℕ, ◌+◌, ◌-◌, ◌*◌, ◌%◌, ◌^◌, Bool, nat_lt, cond}
use Rattle.sm_types.specs.declared.scalars.Scalars.{Scalars}
use Rattle.sm_types.specs.declared.insn.ShiftKind.{ShiftKind}
use Rattle.sm_types.specs.declared.insn.ShiftKind.TheVariants.{Lsl, Lsr, Asr, Ror}
use Rattle.sm_types.specs.declared.insn.ShiftedRegister.{ShiftedRegister}
use Rattle.sm_types.specs.declared.insn.Extend.{Extend}
use Rattle.sm_types.specs.declared.insn.Extend.TheVariants.{Uxtb, Uxth, Uxtw, Uxtx, Sxtb, Sxth, Sxtw, Sxtx}
use Rattle.sm_types.specs.declared.insn.ExtendedRegister.{ExtendedRegister}
use Rattle.bit_ops.specs.declared.shifts.ShiftKind.{ShiftKind as Shift}
use Rattle.bit_ops.specs.declared.shifts.ShiftKind.TheVariants as shift
use Rattle.bit_ops.specs.Sums.{word_size}
use Rattle.bit_ops.specs.Shifts.{shifted}
use Rattle.scalar_exec.specs.Registers.{x_of, register_of}

-- every bit of a word inverted: NOT
abbrev pub inverted : Bool → ℕ → ℕ
inverted wide n = word_size wide - 1 - n

-- the shift of an operand
abbrev pub shift_of : ShiftKind → Shift
shift_of Lsl = shift.Lsl
shift_of Lsr = shift.Lsr
shift_of Asr = shift.Asr
shift_of Ror = shift.Ror

-- ShiftReg: the register, shifted
abbrev pub shift_reg : Bool → ShiftedRegister → Scalars → ℕ
shift_reg wide operand s =
    shifted (shift_of operand.shift) wide (register_of wide s operand.rm) operand.amount

-- SignExtend: the low `from` bits, with their top bit in the places above them
unfoldable pub sign_extend : ℕ → Bool → ℕ → ℕ
sign_extend from wide n =
    cond (nat_lt (n % 2 ^ from) (2 ^ (from - 1))) (n % 2 ^ from) (word_size wide - 2 ^ from + n % 2 ^ from)

-- the low 8, 16 or 32 bits or the word, extended to the word by zeros or by the sign
unfoldable pub extended : Extend → Bool → ℕ → ℕ
extended Uxtb wide n = n % 2 ^ 8
extended Uxth wide n = n % 2 ^ 16
extended Uxtw wide n = n % 2 ^ 32
extended Uxtx wide n = n % word_size wide
extended Sxtb wide n = sign_extend 8 wide n
extended Sxth wide n = sign_extend 16 wide n
extended Sxtw wide n = sign_extend 32 wide n
extended Sxtx wide n = n % word_size wide

-- ExtendReg: the register, extended and then shifted left within the word
unfoldable pub extend_reg : Bool → ExtendedRegister → Scalars → ℕ
extend_reg wide operand s =
    extended operand.extend wide (x_of s operand.rm) * 2 ^ operand.amount % word_size wide
