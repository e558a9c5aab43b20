-- A dormant ZA and a lawful callee.
-- Source: AAPCS64, the ZA lazy saving scheme: ZA is dormant where PSTATE.ZA is 1 and TPIDR2_EL0 is not null;
-- a callee either leaves it so or saves it and turns it off.
use Rattle.std.specs.Prelude.{◌≡◌, ◌⊎◌, ℕ, ◌+◌, ◌*◌, ◌/◌, ◌%◌, ◌^◌, ◌<◌, true, false, List, [], length}
use Rattle.std.specs.Prelude.{slice_index_or}
use Rattle.std.specs.FinMap.{get}
use Rattle.scalar_exec.specs.Registers.{x_of}
use Rattle.paged_memory.specs.Memory.{AddressSpace, run_of}
use Rattle.sve_access.specs.After.{read_bytes}
use Rattle.machine_step.specs.ProcessorState.{ProcessorState}
use Rattle.sm_types.specs.Routines.{disable_words, restore_words}
use Rattle.lazy_saving.specs.Code.{HasWords, HasTail}
use Rattle.lazy_saving.specs.Block.{IsBlock, IsBuffer, AreApart, buffer_of, saved_of}

-- where the words of __arm_za_disable, of __arm_tpidr2_restore and of the tail stand
pub record Places : Type 0 where
  pub disable : ℕ
  pub restore : ℕ
  pub tail : ℕ

-- the bytes of the buffer: those of the slices that are saved
abbrev pub buffer_size : ℕ → List ℕ → ℕ
buffer_size size bytes = saved_of bytes * size

-- memory has a block at b with these bytes, its buffer and the words, and the buffer touches none of the
-- others
pub record IsReady (p : Places) (m : AddressSpace) (size b : ℕ) (bytes : List ℕ) : Type 0 where
  pub block : IsBlock m size b bytes
  pub buffer : IsBuffer m (buffer_of bytes) (buffer_size size bytes)
  pub disable : HasWords m p.disable disable_words
  pub restore : HasWords m p.restore restore_words
  pub tail : HasTail m p.tail p.restore
  pub off_block : AreApart (buffer_of bytes) (buffer_size size bytes) b 16
  pub off_disable : AreApart (buffer_of bytes) (buffer_size size bytes) p.disable 80
  pub off_restore : AreApart (buffer_of bytes) (buffer_size size bytes) p.restore 72
  pub off_tail : AreApart (buffer_of bytes) (buffer_size size bytes) p.tail 24

-- ZA of a state is dormant, with the block at b
pub record IsDormantAt (p : Places) (s : ProcessorState) (b : ℕ) : Type 0 where
  pub za_on : s.za_on ≡ true
  pub pointer : s.tpidr2 ≡ b
  pub bytes : List ℕ
  pub ready : IsReady p s.memory (length s.bank.za) b bytes

-- ZA is as it was, and dormant
pub record IsKept (s r : ProcessorState) (b : ℕ) : Type 0 where
  pub za_on : r.za_on ≡ true
  pub pointer : r.tpidr2 ≡ b
  pub za : r.bank.za ≡ s.bank.za

-- the slices to be saved are in the buffer, one after another, and ZA is off
pub record IsSaved (s r : ProcessorState) (bytes : List ℕ) : Type 0 where
  pub za_on : r.za_on ≡ false
  pub pointer : r.tpidr2 ≡ 0
  pub pieces : (i : ℕ) → i < saved_of bytes →
      read_bytes r.memory (run_of (buffer_of bytes + i * length s.bank.za) (length s.bank.za))
      ≡ slice_index_or s.bank.za i []

-- the bytes of a run are as they were
abbrev pub HasSameBytes : AddressSpace → AddressSpace → ℕ → ℕ → Type 0
HasSameBytes old new a count = (i : ℕ) → i < count → get new.mem ((a + i) % 2 ^ 64) ≡ get old.mem
    ((a + i) % 2 ^ 64)

-- the permissions of the pages of a run are as they were
abbrev pub HasSamePages : AddressSpace → AddressSpace → ℕ → ℕ → Type 0
HasSamePages old new a count =
    (i : ℕ) → i < count → get new.perm ((a + i) % 2 ^ 64 / 4096) ≡ get old.perm ((a + i) % 2 ^ 64 / 4096)

-- from s, where ZA is dormant at b, a callee has come to r as the scheme allows
pub record IsLawful (p : Places) (s r : ProcessorState) (b : ℕ) : Type 0 where
  pub dormant : IsDormantAt p s b
  pub block : HasSameBytes s.memory r.memory b 16
  pub disable : HasSameBytes s.memory r.memory p.disable 80
  pub restore : HasSameBytes s.memory r.memory p.restore 72
  pub tail : HasSameBytes s.memory r.memory p.tail 24
  pub block_pages : HasSamePages s.memory r.memory b 16
  pub buffer_pages :
      HasSamePages s.memory r.memory (buffer_of dormant.bytes) (buffer_size (length s.bank.za) dormant.bytes)
  pub disable_pages : HasSamePages s.memory r.memory p.disable 80
  pub restore_pages : HasSamePages s.memory r.memory p.restore 72
  pub tail_pages : HasSamePages s.memory r.memory p.tail 24
  pub pointer : x_of r.scalars 19 ≡ b
  pub half : IsKept s r b ⊎ IsSaved s r dormant.bytes
