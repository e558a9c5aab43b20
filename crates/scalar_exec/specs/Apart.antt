-- Steps with PC apart from the other registers: it is an address and a distance from it.
use Rattle.std.specs.Prelude.{◌≡◌, ℕ, ◌+◌, ◌%◌, ◌^◌}
use Rattle.sm_types.specs.declared.scalars.Scalars.{Scalars}
use Rattle.sm_types.specs.declared.insn.Insn.{Insn}
use Rattle.sm_types.specs.declared.insn.BranchRegisterOp.{BranchRegisterOp}
use Rattle.sm_types.specs.declared.insn.BranchRegisterOp.TheVariants.{Br, Blr, Ret}
use Rattle.scalar_exec.specs.Registers.{with_x, next_address}
use Rattle.scalar_exec.specs.Step.{scalar_step}

-- the registers, with PC at a distance from an address
abbrev pub at_distance : ℕ → ℕ → Scalars → Scalars
at_distance base distance s = record s { pc = (base + distance) % 2 ^ 64 }

-- the instruction takes the registers from the one to the other, and PC from the one distance to the other
abbrev pub Steps : Insn → ℕ → ℕ → ℕ → Scalars → Scalars → Type 0
Steps it base at next old new = at_distance base next new ≡ scalar_step it (at_distance base at old)

-- X30, which BLR alone sets
abbrev pub linked_by : BranchRegisterOp → ℕ → Scalars → Scalars
linked_by Br pc s = s
linked_by Blr pc s = with_x s 30 (next_address pc)
linked_by Ret pc s = s
