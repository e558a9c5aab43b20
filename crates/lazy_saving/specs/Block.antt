-- The TPIDR2 block and the buffer that it names.
-- Source: AAPCS64, the ZA lazy saving scheme: the address of the buffer, the number of the slices to save,
-- and bytes that are zero. That a block stands at a multiple of 16 is this project's own.
use Rattle.std.specs.Prelude.{◌≡◌, ℕ, ◌+◌, ◌%◌, ◌^◌, ◌<◌, ◌≤◌, ◌==◌, cond, List, Some, None, take, drop}
use Rattle.std.specs.Prelude.{replicate}
use Rattle.sm_types.specs.Bytes.{little_number}
use Rattle.paged_memory.specs.Memory.{AddressSpace, bytes_with, first_without}
use Rattle.mem_access.specs.Runs.{first_shared, number_in}

-- the address of the buffer: bytes 0 to 7
abbrev pub buffer_of : List ℕ → ℕ
buffer_of bytes = little_number (take 8 bytes)

-- the number of slices: bytes 8 and 9
abbrev pub slices_of : List ℕ → ℕ
slices_of bytes = little_number (take 2 (drop 8 bytes))

-- the number of slices that are saved: none where the buffer is null
unfoldable pub saved_of : List ℕ → ℕ
saved_of bytes = cond (buffer_of bytes == 0) 0 (slices_of bytes)

-- the bytes from an address on are private and have the permission, which is read 4 or write 2
pub record IsPrivate (need : ℕ) (m : AddressSpace) (a count : ℕ) : Type 0 where
  pub apart : first_shared a count ≡ None
  pub there : first_without need m a count ≡ None

-- no byte of the one run is one of the other
abbrev pub AreApart : ℕ → ℕ → ℕ → ℕ → Type 0
AreApart a n b k = (i j : ℕ) → i < n → j < k → (a + i) % 2 ^ 64 ≡ (b + j) % 2 ^ 64 → ⊥

-- a valid block stands at b, with these bytes; a slice of ZA has so many bytes, and ZA as many slices
pub record IsBlock (m : AddressSpace) (size b : ℕ) (bytes : List ℕ) : Type 0 where
  pub small : b < 2 ^ 64
  pub aligned : b % 16 ≡ 0
  pub some : b ≡ 0 → ⊥
  pub private : first_shared b 16 ≡ None
  pub read : bytes_with 4 m b 16 ≡ Some bytes
  pub zeros : drop 10 bytes ≡ replicate 6 0
  pub few : slices_of bytes ≤ size

-- what loads read of a block at b: the buffer's address, the number of slices, and zeros
pub record IsLoaded (m : AddressSpace) (b buffer slices : ℕ) : Type 0 where
  pub address : number_in m b 8 ≡ buffer
  pub count : number_in m ((b + 8) % 2 ^ 64) 2 ≡ slices
  pub low_zeros : number_in m ((b + 10) % 2 ^ 64) 2 ≡ 0
  pub high_zeros : number_in m ((b + 12) % 2 ^ 64) 4 ≡ 0

-- the buffer of so many bytes can be read and written, and does not pass 2 ^ 64
pub record IsBuffer (m : AddressSpace) (a count : ℕ) : Type 0 where
  pub small : a < 2 ^ 64
  pub end : a + count ≤ 2 ^ 64
  pub readable : IsPrivate 4 m a count
  pub writable : IsPrivate 2 m a count
