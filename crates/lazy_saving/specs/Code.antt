-- Words of code in memory.
use Rattle.std.specs.Prelude.{◌≡◌, ℕ, ◌+◌, ◌*◌, ◌%◌, ◌^◌, ◌<◌, List, Some, None, length, slice_get, true, ℤ}
use Rattle.sm_types.specs.declared.insn.Insn.TheVariants as insn
use Rattle.sm_types.specs.declared.insn.Branch.TheVariants as branch
use Rattle.a64_encode.specs.Either.{instruction_of}
use Rattle.scalar_exec.specs.Branches.{branch_target}
use Rattle.paged_memory.specs.Memory.{AddressSpace, word_at, first_without}
use Rattle.sm_types.specs.Routines.{tail_words}

-- the address of word k of some words at an address
abbrev pub place_of : ℕ → ℕ → ℕ
place_of a k = (a + 4 * k) % 2 ^ 64

-- the words stand from a multiple of 4 on, in memory that can be read and executed
pub record HasWords (m : AddressSpace) (a : ℕ) (words : List ℕ) : Type 0 where
  pub small : a < 2 ^ 64
  pub aligned : a % 4 ≡ 0
  pub executable : (k word : ℕ) → slice_get words k ≡ Some word → word_at m (place_of a k) ≡ Some word
  pub readable : first_without 4 m a (4 * length words) ≡ None

-- the tail of a call stands there, and its BL goes to the address of the routine that it calls
pub record HasTail (m : AddressSpace) (a routine : ℕ) : Type 0 where
  pub call : ℕ
  pub there : HasWords m a (tail_words call)
  pub distance : ℤ
  pub calls : instruction_of call ≡ Some (insn.Branch (branch.Unconditional true distance))
  pub target : branch_target (place_of a 4) distance ≡ routine
