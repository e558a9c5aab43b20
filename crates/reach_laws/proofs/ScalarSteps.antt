-- Scalar instructions leave registers of 64 bits.
use Rattle.std.proofs.Common.{ℕ, ◌+◌, ◌*◌, ◌%◌, ◌^◌, ◌<◌, Bool, true, false, cond, arith, subst, sym, IsTrue, ℤ, ◌≤◌}
use Rattle.std.proofs.lemmas.Nat.{shl_below}
use Rattle.std.proofs.Math.Pow.{pow_mono}
use Rattle.sm_types.specs.declared.scalars.Scalars.{Scalars}
use Rattle.sm_types.specs.declared.insn as types
use types.{Insn.Insn, AddSub.AddSub, Logical.Logical, LogicalRegister.LogicalRegister, MoveOp.MoveOp, MoveWide.MoveWide}
use types.{ShiftedRegister.ShiftedRegister, Branch.Branch, BranchRegisterOp.BranchRegisterOp}
use types.{Multiply.Multiply, PcRelativeOp.PcRelativeOp}
use types.Insn.TheVariants as insn
use types.AddSub.TheVariants.{Add, Adds, Sub, Subs}
use types.Logical.TheVariants.{And, Orr, Eor, Ands}
use types.MoveOp.TheVariants.{Movn, Movz, Movk}
use types.Branch.TheVariants.{Unconditional, Conditional, Compare, TestBit}
use types.BranchRegisterOp.TheVariants.{Br, Blr, Ret}
use types.PcRelativeOp.TheVariants.{Adr, Adrp}
use types.Multiply.TheVariants.{Same, Long, High}
use Rattle.bit_ops.specs.Sums.{word_size, sum_of}
use Rattle.bit_ops.specs.Masks.{mask_of}
use Rattle.bit_ops.proofs.MaskBits.{mask-facts}
use Rattle.a64_table.specs.Ranges.{IsInRow, IsShiftedRegister, IsLogicalRegister, IsMoveWide}
use Rattle.scalar_exec.specs.Registers.{register_of, x_of}
use Rattle.scalar_exec.specs.Sums.{sum_to_x, sum_to_sp, add_sub_immediate, add_sub_register, add_sub_extended, add_sub_carry}
use Rattle.scalar_exec.specs.Operands.{inverted, shift_reg, shift_of}
use Rattle.scalar_exec.specs.Logic.{combined, logical_to_x, logical_to_sp, logical_operand, logical_register, logical_immediate}
use Rattle.scalar_exec.specs.Moves.{moved, move_wide, bitfield_move, extract}
use Rattle.scalar_exec.specs.Conditional.{condition_holds, otherwise, conditional_select, conditional_compare}
use Rattle.scalar_exec.specs.Branches.{linked, branch_if, branch, branch_to, relative_address, pc_relative}
use Rattle.scalar_exec.specs.Sources.{one_source, two_source, multiply}
use Rattle.scalar_exec.specs.Step.{is_scalar, scalar_step}
use Rattle.reach_laws.proofs.Fits.{Fits}
use Rattle.reach_laws.proofs.Scalars.{fits_x, fits_x_or_sp, fits_flags, fits_pc, fits_past, x_fits, word_fits, part_fits, part_below}
use Rattle.reach_laws.proofs.Values.{combined_below, shifted_below, inverted_below, with_field_below, bitfield_below}
use Rattle.reach_laws.proofs.Values.{otherwise_below, one_source_below, two_source_below, high_below, accumulated_fits, size_is}

sum_to_x_fits : (op : AddSub) (wide : Bool) (d a b carry : ℕ) (s : Scalars) → Fits s → Fits (sum_to_x op wide d a b carry s)
unfolding sum_to_x sum_of
sum_to_x_fits Add wide d a b carry s h = fits_x s d _ h (part_fits wide (a + b + carry))
sum_to_x_fits Adds wide d a b carry s h = fits_flags _ _ (fits_x s d _ h (part_fits wide (a + b + carry)))
sum_to_x_fits Sub wide d a b carry s h = fits_x s d _ h (part_fits wide (a + inverted wide b + carry))
sum_to_x_fits Subs wide d a b carry s h = fits_flags _ _ (fits_x s d _ h (part_fits wide (a + inverted wide b + carry)))

sum_to_sp_fits : (op : AddSub) (wide : Bool) (d a b : ℕ) (s : Scalars) → Fits s → Fits (sum_to_sp op wide d a b s)
unfolding sum_to_sp sum_of
sum_to_sp_fits Add wide d a b s h = fits_x_or_sp s d _ h (part_fits wide (a + b + 0))
sum_to_sp_fits Adds wide d a b s h = sum_to_x_fits Adds wide d a b 0 s h
sum_to_sp_fits Sub wide d a b s h = fits_x_or_sp s d _ h (part_fits wide (a + inverted wide b + 1))
sum_to_sp_fits Subs wide d a b s h = sum_to_x_fits Subs wide d a b 1 s h

logical_to_x_fits : (op : Logical) (wide : Bool) (d v : ℕ) (s : Scalars) → Fits s → v < 2 ^ 64 → Fits (logical_to_x op wide d v s)
unfolding logical_to_x
logical_to_x_fits And wide d v s h lt = fits_x s d v h lt
logical_to_x_fits Orr wide d v s h lt = fits_x s d v h lt
logical_to_x_fits Eor wide d v s h lt = fits_x s d v h lt
logical_to_x_fits Ands wide d v s h lt = fits_flags _ _ (fits_x s d v h lt)

logical_to_sp_fits : (op : Logical) (wide : Bool) (d v : ℕ) (s : Scalars) → Fits s → v < 2 ^ 64 → Fits (logical_to_sp op wide d v s)
unfolding logical_to_sp
logical_to_sp_fits And wide d v s h lt = fits_x_or_sp s d v h lt
logical_to_sp_fits Orr wide d v s h lt = fits_x_or_sp s d v h lt
logical_to_sp_fits Eor wide d v s h lt = fits_x_or_sp s d v h lt
logical_to_sp_fits Ands wide d v s h lt = logical_to_x_fits Ands wide d v s h lt

shift_reg_below : (wide : Bool) (operand : ShiftedRegister) (s : Scalars) → IsShiftedRegister wide operand
    → shift_reg wide operand s < word_size wide
shift_reg_below wide operand s r =
    shifted_below (shift_of operand.shift) wide _ operand.amount (part_below wide (x_of s operand.rm)) (let h = r.amount in omega arith)

operand_below : (x : LogicalRegister) (s : Scalars) → IsLogicalRegister x → logical_operand x s < word_size x.wide
operand_below x s r =
    elim x.inverted as (λ b. cond b (inverted x.wide (shift_reg x.wide x.operand s)) (shift_reg x.wide x.operand s) < word_size x.wide) [
      | true ↦ inverted_below x.wide _
      | false ↦ shift_reg_below x.wide x.operand s r.operand
    ]

-- a logical result of a word and another
logical_below : (op : Logical) (wide : Bool) (a b : ℕ) → b < word_size wide → combined op (a % word_size wide) b < 2 ^ 64
logical_below op true a b h = combined_below op 64 (a % 2 ^ 64) b (part_below true a) h
logical_below op false a b h = word_fits false _ (combined_below op 32 (a % 2 ^ 32) b (part_below false a) h)

mask_below : (n wide : Bool) (imms immr : ℕ) → mask_of n imms immr wide < word_size wide
mask_below n wide imms immr = subst (λ w. mask_of n imms immr wide < w) (sym (size_is wide)) (mask-facts n wide imms immr).within

moved_fits : (op : MoveOp) (x : MoveWide) (s : Scalars) → IsMoveWide x → moved op x s < 2 ^ 64
unfolding moved
moved_fits Movn x s r = word_fits x.wide _ (inverted_below x.wide (x.imm * 2 ^ (16 * x.hw)))
moved_fits Movz x s r =
    let h = shl_below x.imm 16 (16 * x.hw) r.imm in
    let place : 16 * x.hw + 16 ≤ 64 = let w = r.hw in omega arith in
    let room : 16 + 16 * x.hw ≤ 64 = omega arith in
    let m = pow_mono room in
    omega arith
moved_fits Movk x s r =
    with_field_below 64 (16 * x.hw) 16 x.imm (register_of x.wide s x.rd) (let w = r.hw in omega arith) r.imm
    (part_fits x.wide (x_of s x.rd))

branch_if_fits : (taken : Bool) (words : ℤ) (s : Scalars) → Fits s → Fits (branch_if taken words s)
unfolding branch_if
branch_if_fits true words s h = fits_pc s _ h (omega arith)
branch_if_fits false words s h = fits_past s h

linked_fits : (s : Scalars) → Fits s → Fits (linked s)
linked_fits s h = fits_x s 30 _ h (omega arith)

branch_fits : (x : Branch) (s : Scalars) → Fits s → Fits (branch x s)
unfolding branch
branch_fits (Unconditional true words) s h = fits_pc _ _ (linked_fits s h) (omega arith)
branch_fits (Unconditional false words) s h = fits_pc s _ h (omega arith)
branch_fits (Conditional condition words) s h = branch_if_fits _ words s h
branch_fits (Compare nonzero wide words rt) s h = branch_if_fits _ words s h
branch_fits (TestBit nonzero bit words rt) s h = branch_if_fits _ words s h

branch_to_fits : (op : BranchRegisterOp) (n : ℕ) (s : Scalars) → Fits s → Fits (branch_to op n s)
unfolding branch_to
branch_to_fits Br n s h = fits_pc s _ h (x_fits s n h)
branch_to_fits Blr n s h = fits_pc _ _ (linked_fits s h) (x_fits s n h)
branch_to_fits Ret n s h = fits_pc s _ h (x_fits s n h)

relative_fits : (op : PcRelativeOp) (pc : ℕ) (imm : ℤ) → relative_address op pc imm < 2 ^ 64
unfolding relative_address
relative_fits Adr pc imm = omega arith
relative_fits Adrp pc imm = omega arith

multiply_fits : (x : Multiply) (s : Scalars) → Fits s → Fits (multiply x s)
unfolding multiply
multiply_fits (Same subtract wide rm ra rn rd) s h = fits_x s rd _ h (accumulated_fits subtract wide _ _)
multiply_fits (Long subtract signed rm ra rn rd) s h = fits_x s rd _ h (accumulated_fits subtract true _ _)
multiply_fits (High signed rm rn rd) s h = fits_x s rd _ h (high_below signed _ _ (part_below true _) (part_below true _))

pub step_fits : (it : Insn) (s : Scalars) → IsTrue (is_scalar it) → IsInRow it → Fits s → Fits (scalar_step it s)
unfolding scalar_step add_sub_immediate add_sub_register add_sub_extended add_sub_carry logical_register logical_immediate move_wide
    bitfield_move extract pc_relative conditional_select conditional_compare one_source two_source
step_fits (insn.AddSubImmediate x) s t r h = fits_past _ (sum_to_sp_fits x.op x.wide x.rd _ _ s h)
step_fits (insn.AddSubRegister x) s t r h = fits_past _ (sum_to_x_fits x.op x.wide x.rd _ _ _ s h)
step_fits (insn.LogicalRegister x) s t r h =
    fits_past _ (logical_to_x_fits x.op x.wide x.rd _ s h (logical_below x.op x.wide (x_of s x.rn) _ (operand_below x s r)))
step_fits (insn.AddSubExtended x) s t r h = fits_past _ (sum_to_sp_fits x.op x.wide x.rd _ _ s h)
step_fits (insn.LogicalImmediate x) s t r h =
    fits_past _ (logical_to_sp_fits x.op x.wide x.rd _ s h
    (logical_below x.op x.wide (x_of s x.rn) _ (mask_below x.n x.wide x.imms x.immr)))
step_fits (insn.MoveWide x) s t r h = fits_past _ (fits_x s x.rd _ h (moved_fits x.op x s r))
step_fits (insn.BitfieldMove x) s t r h =
    fits_past _ (fits_x s x.rd _ h (word_fits x.wide _ (bitfield_below x _ _ r.immr r.imms (part_below x.wide (x_of s x.rd)))))
step_fits (insn.Extract x) s t r h = fits_past _ (fits_x s x.rd _ h (part_fits x.wide _))
step_fits (insn.PcRelative x) s t r h = fits_past _ (fits_x s x.rd _ h (relative_fits x.op s.pc x.imm))
step_fits (insn.Branch x) s t r h = branch_fits x s h
step_fits (insn.BranchRegister x) s t r h = branch_to_fits x.op x.rn s h
step_fits (insn.AddSubCarry x) s t r h = fits_past _ (sum_to_x_fits x.op x.wide x.rd _ _ _ s h)
step_fits (insn.ConditionalSelect x) s t r h =
    fits_past _ (fits_x s x.rd _ h (elim (condition_holds x.condition s) as (λ b. cond b (register_of x.wide s x.rn)
    (otherwise x.op x.wide (register_of x.wide s x.rm)) < 2 ^ 64) [
      | true ↦ part_fits x.wide (x_of s x.rn)
      | false ↦ word_fits x.wide _ (otherwise_below x.op x.wide _ (part_below x.wide (x_of s x.rm)))
    ]))
step_fits (insn.ConditionalCompare x) s t r h = fits_past _ (fits_flags s _ h)
step_fits (insn.OneSource x) s t r h = fits_past _ (fits_x s x.rd _ h (word_fits x.wide _ (one_source_below x.op x.wide _)))
step_fits (insn.TwoSource x) s t r h =
    fits_past _ (fits_x s x.rd _ h (word_fits x.wide _ (two_source_below x.op x.wide _ _ (part_below x.wide (x_of s x.rn)))))
step_fits (insn.Multiply x) s t r h = fits_past _ (multiply_fits x s h)
step_fits other s t r h = (let none : ⊥ = cc in absurd none)
