-- What the routines come to.
-- Source: AAPCS64, the ZA lazy saving scheme. How many instructions they take is this project's own.
use Rattle.std.specs.Prelude.{◌≡◌, ℕ, ◌+◌, ◌*◌, ◌%◌, ◌^◌, ◌<◌, ◌≤◌, ◌==◌, ◌&&◌, ◌||◌, nat_le, Bool, true}
use Rattle.std.specs.Prelude.{false, cond}
use Rattle.std.specs.Prelude.{List, [], length, slice_index, slice_index_or, replicate}
use Rattle.std.specs.FinMap.{get}
use Rattle.sm_types.specs.declared.scalars.Scalars.{Scalars}
use Rattle.scalar_exec.specs.Registers.{x_of}
use Rattle.paged_memory.specs.Memory.{AddressSpace, run_of}
use Rattle.za_array.specs.Array.{IsSquare}
use Rattle.sve_access.specs.After.{read_bytes}
use Rattle.machine_step.specs.ProcessorState.{ProcessorState}
use Rattle.lazy_saving.specs.Code.{place_of}
use Rattle.lazy_saving.specs.Block.{buffer_of, slices_of, saved_of}
use Rattle.lazy_saving.specs.Dormant.{Places, IsReady, IsSaved, buffer_size}

-- the state has 31 registers and a square ZA whose slices have at most 256 bytes, as each of a thread has
pub record IsWhole (s : ProcessorState) : Type 0 where
  pub registers : length s.scalars.x ≡ 31
  pub square : IsSquare (length s.bank.za) s.bank.za
  pub small : length s.bank.za ≤ 256

-- X14 to X17
abbrev pub is_temporary : ℕ → Bool
is_temporary n = nat_le 14 n && nat_le n 17

-- and X0 and X30
abbrev pub is_given_up : ℕ → Bool
is_given_up n = is_temporary n || (n == 0 || n == 30)

-- the registers but for some, SP and the flags are as they were
pub record KeepsRegisters (changed : ℕ → Bool) (old new : Scalars) : Type 0 where
  pub count : length new.x ≡ length old.x
  pub x : (n : ℕ) → changed n ≡ false → slice_index new.x n ≡ slice_index old.x n
  pub sp : new.sp ≡ old.sp
  pub n : new.n ≡ old.n
  pub z : new.z ≡ old.z
  pub c : new.c ≡ old.c
  pub v : new.v ≡ old.v

-- what a routine does not touch is as it was, but for memory, PC, TPIDR2_EL0 and ZA
pub record KeepsRest (changed : ℕ → Bool) (old new : ProcessorState) : Type 0 where
  pub scalars : KeepsRegisters changed old.scalars new.scalars
  pub tpidr : new.tpidr ≡ old.tpidr
  pub streaming : new.streaming ≡ old.streaming
  pub registers : new.bank.registers ≡ old.bank.registers

-- memory outside a run is as it was, and so is each permission
pub record KeepsMemoryBut (a count : ℕ) (old new : AddressSpace) : Type 0 where
  pub perm : new.perm ≡ old.perm
  pub bytes : (q : ℕ) → ((i : ℕ) → i < count → (a + i) % 2 ^ 64 ≡ q → ⊥) → get new.mem q ≡ get old.mem q

-- how many instructions a routine takes, by the block: so many with a null buffer, so many without slices, or
-- so many and five for each slice
abbrev pub instructions_of : ℕ → ℕ → ℕ → List ℕ → ℕ
instructions_of null none some bytes =
    cond (buffer_of bytes == 0) null (cond (slices_of bytes == 0) none (some + 5 * slices_of bytes))

abbrev pub disable_length : List ℕ → ℕ
disable_length bytes = instructions_of 11 13 14 bytes

abbrev pub tail_length : List ℕ → ℕ
tail_length bytes = instructions_of 15 17 18 bytes

-- the tail takes four where PSTATE.ZA is 1 before it
abbrev pub instructions_past : Bool → List ℕ → ℕ
instructions_past true bytes = 4
instructions_past false bytes = tail_length bytes

-- __arm_za_disable has come back
pub record IsDisabled (s t : ProcessorState) (bytes : List ℕ) : Type 0 where
  pub pc : t.scalars.pc ≡ x_of s.scalars 30
  pub saved : IsSaved s t bytes
  pub count : length t.bank.za ≡ length s.bank.za
  pub memory : KeepsMemoryBut (buffer_of bytes) (buffer_size (length s.bank.za) bytes) s.memory t.memory
  pub rest : KeepsRest is_temporary s t

-- r has the block at X19, its buffer and the words
pub record IsBack (p : Places) (r : ProcessorState) (bytes : List ℕ) : Type 0 where
  pub ready : IsReady p r.memory (length r.bank.za) (x_of r.scalars 19) bytes
  pub pc : r.scalars.pc ≡ p.tail

-- the tail is passed: ZA is active, and all else is as it was
pub record IsPast (p : Places) (r t : ProcessorState) : Type 0 where
  pub pc : t.scalars.pc ≡ place_of p.tail 6
  pub za_on : t.za_on ≡ true
  pub pointer : t.tpidr2 ≡ 0
  pub memory : t.memory ≡ r.memory
  pub rest : KeepsRest is_given_up r t

-- slice i of ZA after the tail where ZA was saved: the piece of the buffer, or zeros
unfoldable pub slice_back : AddressSpace → ℕ → List ℕ → ℕ → List ℕ
slice_back m size bytes i =
    cond (nat_le (saved_of bytes) i) (replicate size 0) (read_bytes m (run_of
    (buffer_of bytes + i * size) size))

-- ZA has these slices
pub record IsRestored (r t : ProcessorState) (bytes : List ℕ) : Type 0 where
  pub count : length t.bank.za ≡ length r.bank.za
  pub slices : (i : ℕ) → i < length r.bank.za →
      slice_index_or t.bank.za i [] ≡ slice_back r.memory (length r.bank.za) bytes i

-- the slices to be saved are those of ZA before the call, and the others are zero
pub record HasSavedSlices (s t : ProcessorState) (bytes : List ℕ) : Type 0 where
  pub count : length t.bank.za ≡ length s.bank.za
  pub saved : (i : ℕ) → i < saved_of bytes → i < length s.bank.za →
      slice_index_or t.bank.za i [] ≡ slice_index_or s.bank.za i []
  pub others : (i : ℕ) → saved_of bytes ≤ i → i < length s.bank.za →
      slice_index_or t.bank.za i [] ≡ replicate (length s.bank.za) 0

-- what the caller has of its ZA after the call: all, where the callee left it on; else the saved slices
abbrev pub IsCallersArray : Bool → ProcessorState → ProcessorState → List ℕ → Type 0
IsCallersArray true s t bytes = t.bank.za ≡ s.bank.za
IsCallersArray false s t bytes = HasSavedSlices s t bytes
