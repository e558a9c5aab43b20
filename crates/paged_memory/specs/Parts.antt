-- Which parts an image may have.
-- Source: the address space of a guest thread, with its stack and the shared region.
use Rattle.std.specs.Prelude.{◌≡◌, ℕ, zero, suc, ◌+◌, ◌/◌, ◌%◌, ◌<◌, ◌≤◌, ◌^◌, cond, List, [], ◌∷◌, None}
use Rattle.std.specs.Prelude.{length}
use Rattle.std.specs.Prelude.{All, IsSome, is_some}
use Rattle.paged_memory.specs.Image.{Extent, image_flags, part_byte, parts_byte, zero_in, IsLoadablePage}
use Rattle.paged_memory.specs.Memory.{AddressSpace}
use Rattle.std.specs.FinMap.{get}

-- the bytes of a part are within its size, its flags are a sum of execute 1, write 2 and read 4, and each of
-- its addresses is in a page that an image may have
pub record IsPlaced (part : Extent) : Type 0 where
  pub inside : length part.bytes ≤ part.size
  pub flags : part.flags < 8
  pub places : (a : ℕ) → part.address ≤ a → a < part.address + part.size → IsLoadablePage (a / 4096)

-- no two parts have an address in common
abbrev pub AreApart : List Extent → Type 0
AreApart [] = Unit
AreApart (part ∷ parts) = ((a : ℕ) → IsSome (part_byte part a) → parts_byte parts a ≡ None) × AreApart parts

-- how many of the pages below a number the parts touch
unfoldable pub touched_below : List Extent → ℕ → ℕ
touched_below parts zero = 0
touched_below parts (suc n) = touched_below parts n + cond (is_some (image_flags parts n)) 1 0

-- parts that make an image: at most 4,032 pages are touched
pub record ArePlaced (parts : List Extent) : Type 0 where
  pub placed : All IsPlaced parts
  pub apart : AreApart parts
  pub few : touched_below parts (2 ^ 35) ≤ 4032

-- each byte of the memory's pages is there, and is zero
abbrev pub IsZero : AddressSpace → Type 0
IsZero m = (a : ℕ) → get m.mem a ≡ zero_in (get m.perm (a / 4096))

-- each of the n addresses from an address on is in a page
abbrev pub AreMapped : AddressSpace → ℕ → ℕ → Type 0
AreMapped m address n = (k : ℕ) → k < n → IsSome (get m.perm ((address + k) % 2 ^ 64 / 4096))
