-- What it means that an instruction has the distance to a target.
-- Source: DDI 0487, C6.2: ADR, ADRP, B, BL, B.cond, CBZ, CBNZ, TBZ, TBNZ, LDR (literal), LDRSW (literal).
use Rattle.std.specs.Prelude.{◌≡◌, ℕ, ◌*◌, ◌/◌, Some, ℤ, pos, ◌-ℤ◌, ◌*ℤ◌}
use Rattle.sm_types.specs.declared.insn.Insn.{Insn}
use Rattle.sm_types.specs.declared.insn.Insn.TheVariants as insn
use Rattle.sm_types.specs.declared.insn.PcRelativeOp.{PcRelativeOp}
use Rattle.sm_types.specs.declared.insn.PcRelativeOp.TheVariants.{Adr, Adrp}
use Rattle.sm_types.specs.declared.insn.Branch.{Branch}
use Rattle.sm_types.specs.declared.insn.Branch.TheVariants.{Unconditional, Conditional, Compare, TestBit}
use Rattle.a64_encode.specs.Either.{instruction_of}

-- a branch with another distance
abbrev pub branch_with : Branch → ℤ → Branch
branch_with (Unconditional link words) z = Unconditional link z
branch_with (Conditional condition words) z = Conditional condition z
branch_with (Compare nonzero wide words rt) z = Compare nonzero wide z rt
branch_with (TestBit nonzero bit words rt) z = TestBit nonzero bit z rt

-- an instruction with another distance as its immediate, and nothing else changed
abbrev pub with_immediate : Insn → ℤ → Insn
with_immediate (insn.PcRelative it) z = insn.PcRelative (record it { imm = z })
with_immediate (insn.Branch it) z = insn.Branch (branch_with it z)
with_immediate (insn.LoadLiteral it) z = insn.LoadLiteral (record it { words = z })
with_immediate other z = other

-- how many bytes the immediate counts: ADR counts bytes, ADRP pages, and branches and loads words
abbrev pub relative_unit : PcRelativeOp → ℕ
relative_unit Adr = 1
relative_unit Adrp = 4096

abbrev pub unit_in : Insn → ℕ
unit_in (insn.PcRelative it) = relative_unit it.op
unit_in other = 4

-- the address from which and to which it counts: ADRP that of the page
abbrev pub relative_base : PcRelativeOp → ℕ → ℕ
relative_base Adr address = address
relative_base Adrp address = address / 4096 * 4096

abbrev pub base_in : Insn → ℕ → ℕ
base_in (insn.PcRelative it) address = relative_base it.op address
base_in other address = address

-- an instruction is another one with the distance from an address to a target as its immediate
pub record IsResolved (it : Insn) (from target : ℕ) (resolved : Insn) : Type 0 where
  pub immediate : ℤ
  pub is_distance : immediate *ℤ pos (unit_in it) ≡ pos (base_in it target) -ℤ pos (base_in it from)
  pub only : resolved ≡ with_immediate it immediate

-- a word means the instruction that another word means, with that distance
pub record MeansResolved (word from target resolved : ℕ) : Type 0 where
  pub it : Insn
  pub other : Insn
  pub means : instruction_of word ≡ Some it
  pub resolved_means : instruction_of resolved ≡ Some other
  pub resolves : IsResolved it from target other
