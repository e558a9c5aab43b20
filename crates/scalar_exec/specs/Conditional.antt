-- Conditions, and the instructions that select and compare by them. Source: DDI 0487, C1.2.4
-- (ConditionHolds), C6.2: CSEL, CSINC, CSINV, CSNEG, CCMN and CCMP (immediate, register).
use Rattle.std.specs.Prelude.{ℕ, ◌+◌, ◌-◌, ◌%◌, ◌==◌, ◌&&◌, Bool, true, not, cond}
use Rattle.sm_types.specs.declared.scalars.Scalars.{Scalars}
use Rattle.sm_types.specs.declared.insn.Condition.{Condition}
use Rattle.sm_types.specs.declared.insn.Condition.TheVariants.{Eq, Ne, Cs, Cc, Mi, Pl, Vs, Vc, Hi, Ls, Ge, Lt}
use Rattle.sm_types.specs.declared.insn.Condition.TheVariants.{Gt, Le, Al, Nv}
use Rattle.sm_types.specs.declared.insn.SelectOp.{SelectOp}
use Rattle.sm_types.specs.declared.insn.SelectOp.TheVariants.{Csel, Csinc, Csinv, Csneg}
use Rattle.sm_types.specs.declared.insn.ConditionalSelect.{ConditionalSelect}
use Rattle.sm_types.specs.declared.insn.CompareOp.{CompareOp}
use Rattle.sm_types.specs.declared.insn.CompareOp.TheVariants.{Ccmn, Ccmp}
use Rattle.sm_types.specs.declared.insn.CompareOperand.{CompareOperand}
use Rattle.sm_types.specs.declared.insn.CompareOperand.TheVariants as operand
use Rattle.sm_types.specs.declared.insn.ConditionalCompare.{ConditionalCompare}
use Rattle.bit_ops.specs.declared.sums.Nzcv.{Nzcv}
use Rattle.bit_ops.specs.Sums.{word_size, sum_flags}
use Rattle.bit_ops.specs.Bits.{digit_at}
use Rattle.scalar_exec.specs.Registers.{register_of, with_x, with_flags}
use Rattle.scalar_exec.specs.Operands.{inverted}

-- the two truth values are equal
abbrev pub same : Bool → Bool → Bool
same true b = b
same _ b = not b

-- ConditionHolds
unfoldable pub condition_holds : Condition → Scalars → Bool
condition_holds Eq s = s.z
condition_holds Ne s = not s.z
condition_holds Cs s = s.c
condition_holds Cc s = not s.c
condition_holds Mi s = s.n
condition_holds Pl s = not s.n
condition_holds Vs s = s.v
condition_holds Vc s = not s.v
condition_holds Hi s = s.c && not s.z
condition_holds Ls s = not (s.c && not s.z)
condition_holds Ge s = same s.n s.v
condition_holds Lt s = not (same s.n s.v)
condition_holds Gt s = not s.z && same s.n s.v
condition_holds Le s = not (not s.z && same s.n s.v)
condition_holds Al s = true
condition_holds Nv s = true

-- what is taken where the condition fails: the second register, it and one, it inverted, or it negated
unfoldable pub otherwise : SelectOp → Bool → ℕ → ℕ
otherwise Csel wide m = m
otherwise Csinc wide m = (m + 1) % word_size wide
otherwise Csinv wide m = inverted wide m
otherwise Csneg wide m = (word_size wide - m) % word_size wide

-- conditional select: the first register where the condition holds
unfoldable pub conditional_select : ConditionalSelect → Scalars → Scalars
conditional_select x s =
    with_x s x.rd (cond (condition_holds x.condition s) (register_of x.wide s x.rn)
    (otherwise x.op x.wide (register_of x.wide s x.rm)))

-- a register or an immediate
abbrev pub compared : CompareOperand → Bool → Scalars → ℕ
compared (operand.Register rm) wide s = register_of wide s rm
compared (operand.Immediate imm) wide s = imm

-- the flags of the sum, or of the difference
unfoldable pub compare_flags : CompareOp → Bool → ℕ → ℕ → Nzcv
compare_flags Ccmn wide a b = sum_flags wide a b 0
compare_flags Ccmp wide a b = sum_flags wide a (inverted wide b) 1

-- N is bit 3, Z bit 2, C bit 1, V bit 0
unfoldable pub flags_of : ℕ → Nzcv
flags_of nzcv =
    record {
      n = digit_at 2 nzcv 3 == 1;
      z = digit_at 2 nzcv 2 == 1;
      c = digit_at 2 nzcv 1
          == 1;
      v = digit_at 2 nzcv 0 == 1;
    }

-- conditional compare: the flags of the comparison where the condition holds, else those of the instruction
unfoldable pub conditional_compare : ConditionalCompare → Scalars → Scalars
conditional_compare x s =
    with_flags s (cond (condition_holds x.condition s) (compare_flags x.op x.wide
    (register_of x.wide s x.rn) (compared x.operand x.wide s)) (flags_of x.nzcv))
