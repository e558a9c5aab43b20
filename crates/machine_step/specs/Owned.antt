-- Which pages a step makes owned: those of the bytes that its instruction writes, and no others.
-- Source: copy on write, as System V's fork has it.
use Rattle.std.specs.Prelude.{◌≡◌, ℕ, List, [], Option, Some, None, option_and_then}
use Rattle.sm_types.specs.declared.insn.Insn.{Insn}
use Rattle.sm_types.specs.declared.insn.Insn.TheVariants as insn
use Rattle.sm_types.specs.declared.matrix.ArrayAccess.{ArrayAccess}
use Rattle.sm_types.specs.declared.matrix.ArrayAccess.TheVariants as array
use Rattle.a64_encode.specs.Either.{instruction_of}
use Rattle.paged_memory.specs.Memory.{word_at}
use Rattle.paged_memory.specs.PageTable.{PageTable, OwnsAlso, KeepsOwned}
use Rattle.mem_access.specs.Transfer.{writes_of}
use Rattle.mem_access.specs.declared.bank.Bank.{Bank}
use Rattle.sve_vectors.specs.Registers.{predicate_at}
use Rattle.sve_vectors.specs.State.{length_of}
use Rattle.sve_access.specs.After.{writes_of as vector_access_writes}
use Rattle.za_access.specs.Vectors.{vector_writes}
use Rattle.za_access.specs.Slices.{slice_writes}
use Rattle.machine_step.specs.ProcessorState.{vector_bytes}
use Rattle.machine_step.specs.declared.machine.Machine.{Machine}
use Rattle.machine_step.specs.declared.at_once.Attempt.{Attempt}
use Rattle.machine_step.specs.declared.at_once.Attempt.TheVariants as attempt
use Rattle.machine_step.specs.declared.executed.Executed.{Executed}
use Rattle.machine_step.specs.declared.executed.Executed.TheVariants as executed
use Rattle.machine_step.specs.declared.step.StepEnd.{StepEnd}
use Rattle.machine_step.specs.declared.step.StepEnd.TheVariants as step

-- the addresses of the bytes that an access to a vector of ZA writes; ZERO makes none
abbrev pub array_writes : Machine → Bank → ArrayAccess → List ℕ
array_writes m bank (array.Zero mask) = []
array_writes m bank (array.Transfer store rv offset rn) =
    vector_writes store rv offset rn m.scalars (vector_bytes bank.za.svl) bank.za.vectors

-- the addresses of the bytes that an instruction of a machine with a bank writes, where no check refuses it
abbrev pub writes_on : Machine → Bank → Insn → List ℕ
writes_on m bank (insn.VectorAccess x) =
    vector_access_writes x m.scalars (length_of bank.vectors) bank.vectors.registers
writes_on m bank (insn.ArrayAccess x) = array_writes m bank x
writes_on m bank (insn.TileAccess x) =
    slice_writes x m.scalars (predicate_at bank.vectors.registers x.pg) (vector_bytes bank.za.svl)
    bank.za.vectors
writes_on m bank other = writes_of other m.scalars m.pages.memory

-- those of the instruction of a machine, if it has one, with the bank that is lent; where none is, vectors
-- are not accessed
abbrev pub writes_in : Machine → Option Bank → Option Insn → List ℕ
writes_in m lent None = []
writes_in m None (Some it) = writes_of it m.scalars m.pages.memory
writes_in m (Some bank) (Some it) = writes_on m bank it

-- those of the instruction at PC
abbrev pub step_writes : Machine → Option Bank → List ℕ
step_writes m lent =
    writes_in m lent (option_and_then instruction_of (word_at m.pages.memory m.scalars.pc))

-- the owned pages after an instruction that writes these bytes: where it is executed, exactly their pages are
-- owned besides; where memory is wanting, more pages may be owned; else the page table is as it was
abbrev pub ExecutionOwns : List ℕ → PageTable → PageTable → Executed → Type 0
ExecutionOwns written old new executed.Next = OwnsAlso old new written
ExecutionOwns written old new executed.Memory = KeepsOwned old new
ExecutionOwns written old new other = new ≡ old

-- the same after an attempt to execute it at once
abbrev pub AttemptOwns : List ℕ → PageTable → PageTable → Attempt → Type 0
AttemptOwns written old new attempt.Done = OwnsAlso old new written
AttemptOwns written old new attempt.Waits = new ≡ old
AttemptOwns written old new attempt.Memory = KeepsOwned old new

-- the same after a step: an access to a shared word, which has an event, leaves the page table too
abbrev pub StepOwns : List ℕ → PageTable → PageTable → StepEnd → Type 0
StepOwns written old new (step.Next None) = OwnsAlso old new written
StepOwns written old new (step.Next (Some event)) = new ≡ old
StepOwns written old new step.Memory = KeepsOwned old new
StepOwns written old new other = new ≡ old
