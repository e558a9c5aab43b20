-- The addresses that loads have.
use Rattle.std.specs.Prelude.{◌≡◌, ℕ, ◌+◌, ◌^◌, ◌<◌, ◌≤◌, Bool, true, false, List, length, get_or}
use Rattle.std.specs.Prelude.{slice_index, All, Contains}
use Rattle.std.specs.List.{list_any}
use Rattle.std.specs.List.Sorted.{IsNonDecreasingBy, IsPermutation}
use Rattle.elf_headers.specs.declared.program_header.ProgramHeader.{ProgramHeader}
use Rattle.elf_headers.specs.Loads.{has_address, loads_of, AreSound}
use Rattle.elf_sections.specs.declared.load_map.LoadMap.{LoadMap}

-- one of the loads has the address
unfoldable pub has_load : List ProgramHeader → ℕ → Bool
has_load loads a = list_any (λ s. has_address s a) loads

-- each of the loads has an address, ends at most at 2 ^ 47, and shares no address with another
pub record AreLoads (loads : List ProgramHeader) : Type 0 where
  pub some : All (λ s. 0 < s.memory_size) loads
  pub low : All (λ s. s.address + s.memory_size ≤ 2 ^ 47) loads
  pub apart :
      (s t : ProgramHeader) (a : ℕ) → Contains loads s → Contains loads t → has_address s a ≡ true
      → has_address t a ≡ true → s ≡ t

-- the same, in order of address
pub record AreInOrder (loads : List ProgramHeader) : Type 0 where
  pub are : AreLoads loads
  pub order : IsNonDecreasingBy (λ s. s.address) loads

-- these are the loads of the file, in order of address
pub record AreLoadsOf (file : List ℕ) (loads : List ProgramHeader) : Type 0 where
  pub order : AreInOrder loads
  pub same : IsPermutation (loads_of file) loads
  pub sound : AreSound file (loads_of file)

-- the loads have each address from the first of this one on up to `end`, and not `end`
pub record IsEnd (loads : List ProgramHeader) (s : ProgramHeader) (end : ℕ) : Type 0 where
  pub past : s.address + s.memory_size ≤ end
  pub all : (a : ℕ) → s.address ≤ a → a < end → has_load loads a ≡ true
  pub none : has_load loads end ≡ false

-- loads in order, each with the address up to which they have all from its first on
pub record IsLoadMap (load_map : LoadMap) : Type 0 where
  pub loads : AreInOrder load_map.loads.items
  pub count : length load_map.ends.items ≡ length load_map.loads.items
  pub ends :
      (k : ℕ) (d : ProgramHeader) → k < length load_map.loads.items
      → IsEnd load_map.loads.items (get_or load_map.loads.items k d) (slice_index load_map.ends.items k)
