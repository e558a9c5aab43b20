-- Sums and differences. Source: DDI 0487, C6.2: ADD, ADDS, SUB and SUBS (immediate, shifted register,
-- extended register), ADC, ADCS, SBC, SBCS. A difference is the sum with the inverted operand and a carry
-- of 1, or for SBC with the carry flag.
use Rattle.std.specs.Prelude.{ℕ, ◌*◌, ◌^◌, Bool, cond}
use Rattle.sm_types.specs.declared.scalars.Scalars.{Scalars}
use Rattle.sm_types.specs.declared.insn.AddSub.{AddSub}
use Rattle.sm_types.specs.declared.insn.AddSub.TheVariants.{Add, Adds, Sub, Subs}
use Rattle.sm_types.specs.declared.insn.AddSubImmediate.{AddSubImmediate}
use Rattle.sm_types.specs.declared.insn.AddSubRegister.{AddSubRegister}
use Rattle.sm_types.specs.declared.insn.AddSubExtended.{AddSubExtended}
use Rattle.sm_types.specs.declared.insn.AddSubCarry.{AddSubCarry}
use Rattle.bit_ops.specs.Sums.{bool_number, sum_of, sum_flags}
use Rattle.scalar_exec.specs.Registers.{register_of, register_or_sp, with_x, with_x_or_sp, with_flags}
use Rattle.scalar_exec.specs.Operands.{inverted, shift_reg, extend_reg}

-- the carry into a sum or a difference
abbrev pub carry_of : AddSub → ℕ
carry_of Add = 0
carry_of Adds = 0
carry_of Sub = 1
carry_of Subs = 1

-- the sum with a carry, or that with the operand inverted, goes to a register, and its flags to PSTATE
-- where the operation sets them
unfoldable pub sum_to_x : AddSub → Bool → ℕ → ℕ → ℕ → ℕ → Scalars → Scalars
sum_to_x Add wide d a b carry s = with_x s d (sum_of wide a b carry)
sum_to_x Adds wide d a b carry s = with_flags (with_x s d (sum_of wide a b carry)) (sum_flags wide a b carry)
sum_to_x Sub wide d a b carry s = with_x s d (sum_of wide a (inverted wide b) carry)
sum_to_x Subs wide d a b carry s =
    with_flags (with_x s d (sum_of wide a (inverted wide b) carry)) (sum_flags wide a (inverted wide b) carry)

-- the sum or difference goes to a register, of which number 31 is SP where no flags are set
unfoldable pub sum_to_sp : AddSub → Bool → ℕ → ℕ → ℕ → Scalars → Scalars
sum_to_sp Add wide d a b s = with_x_or_sp s d (sum_of wide a b 0)
sum_to_sp Adds wide d a b s = sum_to_x Adds wide d a b 0 s
sum_to_sp Sub wide d a b s = with_x_or_sp s d (sum_of wide a (inverted wide b) 1)
sum_to_sp Subs wide d a b s = sum_to_x Subs wide d a b 1 s

-- the immediate, shifted left by 12 where the instruction says so
abbrev pub immediate_of : AddSubImmediate → ℕ
immediate_of x = cond x.shifted (x.imm * 2 ^ 12) x.imm

-- immediate
unfoldable pub add_sub_immediate : AddSubImmediate → Scalars → Scalars
add_sub_immediate x s = sum_to_sp x.op x.wide x.rd (register_or_sp x.wide s x.rn) (immediate_of x) s

-- shifted register
unfoldable pub add_sub_register : AddSubRegister → Scalars → Scalars
add_sub_register x s =
    sum_to_x x.op x.wide x.rd (register_of x.wide s x.rn) (shift_reg x.wide x.operand s) (carry_of x.op) s

-- extended register
unfoldable pub add_sub_extended : AddSubExtended → Scalars → Scalars
add_sub_extended x s =
    sum_to_sp x.op x.wide x.rd (register_or_sp x.wide s x.rn) (extend_reg x.wide x.operand s) s

-- with the carry flag
unfoldable pub add_sub_carry : AddSubCarry → Scalars → Scalars
add_sub_carry x s =
    sum_to_x x.op x.wide x.rd (register_of x.wide s x.rn) (register_of x.wide s x.rm) (bool_number s.c) s
