-- The registers after an instruction of the scalar groups that neither access memory nor are system
-- instructions.
-- Source: DDI 0487, C6.2; but for a taken branch, PC goes on by 4.
use Rattle.std.specs.Prelude.{Bool, true, false}
use Rattle.sm_types.specs.declared.scalars.Scalars.{Scalars}
use Rattle.sm_types.specs.declared.insn.Insn.{Insn}
use Rattle.sm_types.specs.declared.insn.Insn.TheVariants as insn
use Rattle.scalar_exec.specs.declared.exec.Flow.{Flow}
use Rattle.scalar_exec.specs.declared.exec.Flow.TheVariants.{Next, Jump}
use Rattle.scalar_exec.specs.Registers.{past}
use Rattle.scalar_exec.specs.Sums.{add_sub_immediate, add_sub_register, add_sub_extended, add_sub_carry}
use Rattle.scalar_exec.specs.Logic.{logical_register, logical_immediate}
use Rattle.scalar_exec.specs.Moves.{move_wide, bitfield_move, extract}
use Rattle.scalar_exec.specs.Conditional.{conditional_select, conditional_compare}
use Rattle.scalar_exec.specs.Branches.{pc_relative, at_address, branch, branch_register}
use Rattle.scalar_exec.specs.Sources.{one_source, two_source, multiply}

-- the instruction reads and writes scalar registers alone
abbrev pub is_scalar : Insn → Bool
is_scalar (insn.AddSubImmediate x) = true
is_scalar (insn.AddSubRegister x) = true
is_scalar (insn.LogicalRegister x) = true
is_scalar (insn.AddSubExtended x) = true
is_scalar (insn.LogicalImmediate x) = true
is_scalar (insn.MoveWide x) = true
is_scalar (insn.BitfieldMove x) = true
is_scalar (insn.Extract x) = true
is_scalar (insn.PcRelative x) = true
is_scalar (insn.Branch x) = true
is_scalar (insn.BranchRegister x) = true
is_scalar (insn.AddSubCarry x) = true
is_scalar (insn.ConditionalSelect x) = true
is_scalar (insn.ConditionalCompare x) = true
is_scalar (insn.OneSource x) = true
is_scalar (insn.TwoSource x) = true
is_scalar (insn.Multiply x) = true
is_scalar other = false

-- the registers after such an instruction; no other changes them here
unfoldable pub scalar_step : Insn → Scalars → Scalars
scalar_step (insn.AddSubImmediate x) s = past (add_sub_immediate x s)
scalar_step (insn.AddSubRegister x) s = past (add_sub_register x s)
scalar_step (insn.LogicalRegister x) s = past (logical_register x s)
scalar_step (insn.AddSubExtended x) s = past (add_sub_extended x s)
scalar_step (insn.LogicalImmediate x) s = past (logical_immediate x s)
scalar_step (insn.MoveWide x) s = past (move_wide x s)
scalar_step (insn.BitfieldMove x) s = past (bitfield_move x s)
scalar_step (insn.Extract x) s = past (extract x s)
scalar_step (insn.PcRelative x) s = past (pc_relative x s)
scalar_step (insn.Branch x) s = branch x s
scalar_step (insn.BranchRegister x) s = branch_register x s
scalar_step (insn.AddSubCarry x) s = past (add_sub_carry x s)
scalar_step (insn.ConditionalSelect x) s = past (conditional_select x s)
scalar_step (insn.ConditionalCompare x) s = past (conditional_compare x s)
scalar_step (insn.OneSource x) s = past (one_source x s)
scalar_step (insn.TwoSource x) s = past (two_source x s)
scalar_step (insn.Multiply x) s = past (multiply x s)
scalar_step other s = s

-- the registers, with PC moved as the flow says
unfoldable pub flowed : Scalars → Flow → Scalars
flowed s Next = past s
flowed s (Jump target) = at_address s target
