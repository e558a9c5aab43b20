-- What is kept of the state after a marked call until the call returns.
use Rattle.std.specs.Prelude.{◌≡◌, ◌⊎◌, ℕ, ◌+◌, ◌*◌, ◌%◌, ◌^◌, ◌<◌, ◌≤◌, true, false, [], Some, length}
use Rattle.std.specs.Prelude.{slice_index_or}
use Rattle.std.specs.FinMap.{entries}
use Rattle.scalar_exec.specs.Registers.{x_of}
use Rattle.paged_memory.specs.Memory.{AddressSpace, bytes_with}
use Rattle.sve_vectors.specs.Layout.{items_of}
use Rattle.za_array.specs.Array.{IsSquare}
use Rattle.kernel_contexts.specs.State.{State}
use Rattle.machine_step.specs.ProcessorState.{ProcessorState}
use Rattle.lazy_saving.specs.Block.{buffer_of, saved_of}
use Rattle.lazy_saving.specs.Dormant.{Places, IsDormantAt, HasSamePages, buffer_size}
use Rattle.za_routines.specs.Places.{places_of}
use Rattle.abi_checker.specs.Faults.{block_of}
use Rattle.abi_checker.specs.declared.open_call.KeptBytes.{KeptBytes}
use Rattle.abi_checker.specs.declared.open_call.OpenCall.{OpenCall}

-- ZA of the state is dormant at b, and these are the bytes of the block, the tail and the routines
pub record IsKeptBytes (p : Places) (b : ℕ) (kept : KeptBytes) (s : ProcessorState) : Type 0 where
  pub dormant : IsDormantAt p s b
  pub bytes : dormant.bytes ≡ kept.block
  pub tail : bytes_with 4 s.memory p.tail 24 ≡ Some kept.tail
  pub disable : bytes_with 4 s.memory p.disable 80 ≡ Some kept.disable
  pub restore : bytes_with 4 s.memory p.restore 72 ≡ Some kept.restore

-- this is kept of the state after a call
pub record IsKept (call : OpenCall) (s : State) : Type 0 where
  pub block : call.block ≡ block_of s
  pub sp : call.sp ≡ s.core.scalars.sp
  pub depth : call.depth ≡ s.depth
  pub kept : IsKeptBytes (places_of call.places) call.block call.bytes s.core
  pub rows : items_of call.za.items ≡ s.core.bank.za
  pub pages : entries s.core.memory.perm ≡ call.pages.items
  pub square : IsSquare (length s.core.bank.za) s.core.bank.za
  pub small : length s.core.bank.za ≤ 256

-- memory has the bytes that were kept, and they can be read
pub record HasKeptBytes (call : OpenCall) (m : AddressSpace) : Type 0 where
  pub block : bytes_with 4 m call.block 16 ≡ Some call.bytes.block
  pub tail : bytes_with 4 m call.places.tail 24 ≡ Some call.bytes.tail
  pub disable : bytes_with 4 m call.places.disable 80 ≡ Some call.bytes.disable
  pub restore : bytes_with 4 m call.places.restore 72 ≡ Some call.bytes.restore

-- the pages of the tail and of the routines have the same permissions
pub record HasKeptCode (call : OpenCall) (old new : AddressSpace) : Type 0 where
  pub tail : HasSamePages old new call.places.tail 24
  pub disable : HasSamePages old new call.places.disable 80
  pub restore : HasSamePages old new call.places.restore 72

-- and so do those of the block and of the buffer
pub record HasKeptPages (call : OpenCall) (old new : AddressSpace) : Type 0 where
  pub block : HasSamePages old new call.block 16
  pub buffer :
      HasSamePages old new (buffer_of call.bytes.block)
      (buffer_size (length call.za.items) call.bytes.block)
  pub code : HasKeptCode call old new

-- the slices to be saved are in the buffer, one after another, and can be read
abbrev pub HasKeptSlices : OpenCall → AddressSpace → Type 0
HasKeptSlices call m =
    (i : ℕ) → i < saved_of call.bytes.block →
    bytes_with 4 m ((buffer_of call.bytes.block + i * length call.za.items) % 2 ^ 64)
    (length (slice_index_or (items_of call.za.items) i []))
    ≡ Some (slice_index_or (items_of call.za.items) i [])

-- memory is as it was, where the rules ask it
pub record HasKeptMemory (call : OpenCall) (old new : AddressSpace) : Type 0 where
  pub pages : HasKeptPages call old new
  pub bytes : HasKeptBytes call new

-- ZA is as it was, and dormant; or the slices to be saved are in the buffer, and it is off
abbrev pub HasKeptZa : OpenCall → ProcessorState → Type 0
HasKeptZa call r =
    ((r.za_on ≡ true) × (r.tpidr2 ≡ call.block) × (r.bank.za ≡ items_of call.za.items))
    ⊎ ((r.za_on ≡ false) × (r.tpidr2 ≡ 0) × HasKeptSlices call r.memory)

-- from the state after the call, with that memory, to this one the rules were kept
pub record KeepsRules (call : OpenCall) (old : AddressSpace) (r : ProcessorState) : Type 0 where
  pub pointer : x_of r.scalars 19 ≡ call.block
  pub memory : HasKeptMemory call old r.memory
  pub za : HasKeptZa call r
