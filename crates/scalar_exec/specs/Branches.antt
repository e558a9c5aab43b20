-- Addresses beside the program counter, and branches. Source: DDI 0487, C6.2: ADR, ADRP, B, BL, B.cond,
-- CBZ, CBNZ, TBZ, TBNZ, BR, BLR, RET.
use Rattle.std.specs.Prelude.{ℕ, ◌+◌, ◌*◌, ◌/◌, ◌%◌, ◌^◌, ◌==◌, Bool, not, cond, pos, ◌*ℤ◌, ℤ}
use Rattle.std.specs.Int.{w64, cast_unsigned}
use Rattle.sm_types.specs.declared.scalars.Scalars.{Scalars}
use Rattle.sm_types.specs.declared.insn.PcRelativeOp.{PcRelativeOp}
use Rattle.sm_types.specs.declared.insn.PcRelativeOp.TheVariants.{Adr, Adrp}
use Rattle.sm_types.specs.declared.insn.PcRelative.{PcRelative}
use Rattle.sm_types.specs.declared.insn.Branch.{Branch}
use Rattle.sm_types.specs.declared.insn.Branch.TheVariants.{Unconditional, Conditional, Compare, TestBit}
use Rattle.sm_types.specs.declared.insn.BranchRegisterOp.{BranchRegisterOp}
use Rattle.sm_types.specs.declared.insn.BranchRegisterOp.TheVariants.{Br, Blr, Ret}
use Rattle.sm_types.specs.declared.insn.BranchRegister.{BranchRegister}
use Rattle.bit_ops.specs.Bits.{digit_at}
use Rattle.scalar_exec.specs.Registers.{x_of, register_of, with_x, next_address, past}
use Rattle.scalar_exec.specs.Conditional.{same, condition_holds}

-- the address at a signed distance of less than 2 ^ 63, modulo 2 ^ 64
abbrev pub address_at : ℕ → ℤ → ℕ
address_at base distance = (base + cast_unsigned w64 distance) % 2 ^ 64

-- ADR is relative to PC in bytes, ADRP to PC with its low 12 bits clear in pages of 4096 bytes
unfoldable pub relative_address : PcRelativeOp → ℕ → ℤ → ℕ
relative_address Adr pc imm = address_at pc imm
relative_address Adrp pc imm = address_at (pc / 4096 * 4096) (imm *ℤ pos 4096)

-- addresses relative to PC
unfoldable pub pc_relative : PcRelative → Scalars → Scalars
pc_relative x s = with_x s x.rd (relative_address x.op s.pc x.imm)

-- the address so many words away
abbrev pub branch_target : ℕ → ℤ → ℕ
branch_target pc words = address_at pc (words *ℤ pos 4)

-- to the address
abbrev pub at_address : Scalars → ℕ → Scalars
at_address s target = record s { pc = target }

-- X30 gets the address of the next instruction
abbrev pub linked : Scalars → Scalars
linked s = with_x s 30 (next_address s.pc)

-- to the target so many words away where the branch is taken, else on
unfoldable pub branch_if : Bool → ℤ → Scalars → Scalars
branch_if taken words s = cond taken (at_address s (branch_target s.pc words)) (past s)

-- B, BL: always; B.cond: where the condition holds; CBZ, CBNZ: where the register is zero, or is not; TBZ,
-- TBNZ: where its bit is 0, or 1
unfoldable pub branch : Branch → Scalars → Scalars
branch (Unconditional link words) s = at_address (cond link (linked s) s) (branch_target s.pc words)
branch (Conditional condition words) s = branch_if (condition_holds condition s) words s
branch (Compare nonzero wide words rt) s = branch_if (same nonzero (not (register_of wide s rt == 0))) words s
branch (TestBit nonzero bit words rt) s = branch_if (same nonzero (digit_at 2 (x_of s rt) bit == 1)) words s

-- BR, RET: to the register's address; BLR: the same, read before X30 is set
unfoldable pub branch_to : BranchRegisterOp → ℕ → Scalars → Scalars
branch_to Br n s = at_address s (x_of s n)
branch_to Blr n s = at_address (linked s) (x_of s n)
branch_to Ret n s = at_address s (x_of s n)

-- branches to a register
abbrev pub branch_register : BranchRegister → Scalars → Scalars
branch_register x s = branch_to x.op x.rn s
