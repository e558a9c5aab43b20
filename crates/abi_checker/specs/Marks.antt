-- Marked calls: those behind which the tail of the lazy saving scheme stands, with the words of the routines
-- that it goes with.
-- Source: DDI 0487, BL and BLR, B1 (the program's order); AAPCS64, the ZA lazy saving scheme. The words are
-- this project's own.
use Rattle.std.specs.Prelude.{◌≡◌, ℕ, ℤ, suc, ◌+◌, ◌/◌, ◌%◌, ◌-◌, ◌^◌, ◌==◌, ◌&&◌, ◌||◌, Bool, true, false, List}
use Rattle.std.specs.Prelude.{Option, Some, option_map, slice_get}
use Rattle.sm_types.specs.Bytes.{little_number}
use Rattle.sm_types.specs.Routines.{tail_words, restore_words, disable_words}
use Rattle.sm_types.specs.declared.insn.Insn.{Insn}
use Rattle.sm_types.specs.declared.insn.Insn.TheVariants as insn
use Rattle.sm_types.specs.declared.insn.Branch.TheVariants as branch
use Rattle.sm_types.specs.declared.insn.BranchRegisterOp.{BranchRegisterOp}
use Rattle.sm_types.specs.declared.insn.BranchRegisterOp.TheVariants.{Br, Blr, Ret}
use Rattle.a64_encode.specs.Either.{instruction_of}
use Rattle.scalar_exec.specs.Branches.{branch_target}
use Rattle.paged_memory.specs.Memory.{AddressSpace, bytes_with, word_at}
use Rattle.kernel_contexts.specs.State.{State}
use Rattle.lazy_saving.specs.Code.{place_of}
use Rattle.lazy_saving.specs.Dormant.{Places}

-- ---- calls

-- the word of a BL, whose bits 31 to 26 are 100101, or of a BLR, whose bits 31 to 10 are
-- 1101011000111111000000 and whose bits 4 to 0 are zero
abbrev pub is_call_word : ℕ → Bool
is_call_word word = (word / 2 ^ 26 == 0x25) || ((word / 2 ^ 10 == 0x358FC0) && (word % 32 == 0))

-- the instructions BL and BLR
abbrev pub is_linking : BranchRegisterOp → Bool
is_linking Br = false
is_linking Blr = true
is_linking Ret = false

abbrev pub is_call_insn : Insn → Bool
is_call_insn (insn.Branch (branch.Unconditional link distance)) = link
is_call_insn (insn.BranchRegister x) = is_linking x.op
is_call_insn other = false

-- the turn from one state to the next executes a BL or BLR, which is counted
pub record IsCall (old new : State) : Type 0 where
  pub word : ℕ
  pub there : word_at old.core.memory old.core.scalars.pc ≡ Some word
  pub calls : is_call_word word ≡ true
  pub counted : new.count ≡ suc old.count

-- the address past a call, to which it comes back
abbrev pub past_call : State → ℕ
past_call old = (old.core.scalars.pc + 4) % 2 ^ 64

-- ---- the words behind a call

-- the word of the four bytes at an address, whatever their permission
abbrev pub word_in : AddressSpace → ℕ → Option ℕ
word_in m a = option_map little_number (bytes_with 0 m a 4)

-- the first word of the tail: SMSTART ZA
abbrev pub tail_start : ℕ
tail_start = 0xD503457F

-- these words are in memory, one after another
abbrev pub AreWords : AddressSpace → ℕ → List ℕ → Type 0
AreWords m a words = (k word : ℕ) → slice_get words k ≡ Some word → word_in m (place_of a k) ≡ Some word

-- the tail stands at p.tail, its BL goes to p.restore, where the words of __arm_tpidr2_restore are, and those
-- of __arm_za_disable end there
pub record HasMark (m : AddressSpace) (p : Places) : Type 0 where
  pub call : ℕ
  pub tail : AreWords m p.tail (tail_words call)
  pub distance : ℤ
  pub calls : instruction_of call ≡ Some (insn.Branch (branch.Unconditional true distance))
  pub target : p.restore ≡ branch_target (place_of p.tail 4) distance
  pub restore : AreWords m p.restore restore_words
  pub end : p.disable ≡ (p.restore + (2 ^ 64 - 80)) % 2 ^ 64
  pub disable : AreWords m p.disable disable_words

-- a call with the tail behind it, in the state after it
pub record IsMarkedCall (p : Places) (old new : State) : Type 0 where
  pub call : IsCall old new
  pub place : p.tail ≡ past_call old
  pub mark : HasMark new.core.memory p

-- ---- where a call comes back

-- r is back from the call that led to s: at the tail, with SP and the depth of handlers as in s
pub record IsBackFrom (p : Places) (s r : State) : Type 0 where
  pub pc : r.core.scalars.pc ≡ p.tail
  pub sp : r.core.scalars.sp ≡ s.core.scalars.sp
  pub depth : r.depth ≡ s.depth
