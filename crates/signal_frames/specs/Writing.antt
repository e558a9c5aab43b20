-- The bytes of a frame as the code writes them, one part after the other.
use Rattle.std.specs.Prelude.{◌≡◌, ℕ, ◌+◌, ◌%◌, ◌^◌, List, [], length, None}
use Rattle.paged_memory.specs.Memory.{first_without, set_bytes}
use Rattle.paged_memory.specs.PageTable.{PageTable, AreOwned, OwnsAlso}

-- each of the n bytes from an address on may be written, and takes no memory
pub record IsReady (pages : PageTable) (address n : ℕ) : Type 0 where
  pub writable : first_without 2 pages.memory address n ≡ None
  pub owned : AreOwned pages address n

-- the bytes stand in the pages from an address on, and all else stays, the owned pages too
pub record Puts (old new : PageTable) (address : ℕ) (bytes : List ℕ) : Type 0 where
  pub memory : new.memory ≡ record old.memory { mem = set_bytes old.memory.mem address bytes }
  pub owned : OwnsAlso old new []

-- where all is ready for them, the bytes are put; what follows begins at the end
pub record PutsPart (old new : PageTable) (address end : ℕ) (bytes : List ℕ) : Type 0 where
  pub puts : IsReady old address (length bytes) → Puts old new address bytes
  pub next : end ≡ (address + length bytes) % 2 ^ 64
