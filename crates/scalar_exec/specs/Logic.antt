-- Logical operations. Source: DDI 0487, C6.2: AND, ORR, EOR, ANDS (immediate, shifted register), BIC, ORN,
-- EON, BICS.
use Rattle.std.specs.Prelude.{ℕ, ◌==◌, Bool, false, nat_le, cond, bit_and, bit_or, bit_xor}
use Rattle.sm_types.specs.declared.scalars.Scalars.{Scalars}
use Rattle.sm_types.specs.declared.insn.Logical.{Logical}
use Rattle.sm_types.specs.declared.insn.Logical.TheVariants.{And, Orr, Eor, Ands}
use Rattle.sm_types.specs.declared.insn.LogicalRegister.{LogicalRegister}
use Rattle.sm_types.specs.declared.insn.LogicalImmediate.{LogicalImmediate}
use Rattle.bit_ops.specs.declared.sums.Nzcv.{Nzcv}
use Rattle.bit_ops.specs.Sums.{half_size}
use Rattle.bit_ops.specs.Masks.{mask_of}
use Rattle.scalar_exec.specs.Registers.{register_of, with_x, with_x_or_sp, with_flags}
use Rattle.scalar_exec.specs.Operands.{inverted, shift_reg}

-- the operation, bit by bit
unfoldable pub combined : Logical → ℕ → ℕ → ℕ
combined And a b = bit_and a b
combined Orr a b = bit_or a b
combined Eor a b = bit_xor a b
combined Ands a b = bit_and a b

-- the flags of a logical result: N and Z are its own, C and V are clear
unfoldable pub logical_flags : Bool → ℕ → Nzcv
logical_flags wide result =
    record { n = nat_le (half_size wide) result; z = result == 0; c = false; v = false }

-- the result goes to a register, and its flags to PSTATE where the operation sets them
unfoldable pub logical_to_x : Logical → Bool → ℕ → ℕ → Scalars → Scalars
logical_to_x And wide d result s = with_x s d result
logical_to_x Orr wide d result s = with_x s d result
logical_to_x Eor wide d result s = with_x s d result
logical_to_x Ands wide d result s = with_flags (with_x s d result) (logical_flags wide result)

-- the same, where number 31 is SP unless flags are set
unfoldable pub logical_to_sp : Logical → Bool → ℕ → ℕ → Scalars → Scalars
logical_to_sp And wide d result s = with_x_or_sp s d result
logical_to_sp Orr wide d result s = with_x_or_sp s d result
logical_to_sp Eor wide d result s = with_x_or_sp s d result
logical_to_sp Ands wide d result s = logical_to_x Ands wide d result s

-- the second operand: shifted, and then inverted where the instruction says so
abbrev pub logical_operand : LogicalRegister → Scalars → ℕ
logical_operand x s =
    cond x.inverted (inverted x.wide (shift_reg x.wide x.operand s)) (shift_reg x.wide x.operand s)

-- shifted register
unfoldable pub logical_register : LogicalRegister → Scalars → Scalars
logical_register x s =
    logical_to_x x.op x.wide x.rd (combined x.op (register_of x.wide s x.rn) (logical_operand x s)) s

-- immediate: the mask of the fields
unfoldable pub logical_immediate : LogicalImmediate → Scalars → Scalars
logical_immediate x s =
    logical_to_sp x.op x.wide x.rd (combined x.op (register_of x.wide s x.rn)
    (mask_of x.n x.imms x.immr x.wide)) s
