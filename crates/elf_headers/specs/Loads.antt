-- The loads of a file together: what they take into memory, and the checks that compare them.
-- Source: ELF-64 Object File Format, PT_LOAD, p_flags (PF_X 1, PF_W 2, PF_R 4); the limits are this
-- emulator's own.
use Rattle.std.specs.Prelude.{◌⊎◌, ℕ, ◌+◌, ◌%◌, ◌^◌, ◌<◌, ◌≤◌, Bool, List, [], ◌∷◌, length, take, drop, map}
use Rattle.std.specs.Prelude.{All, Option, Some, None, cond, ◌==◌, ◌&&◌, not, nat_lt, nat_le}
use Rattle.paged_memory.specs.Image.{Extent}
use Rattle.paged_memory.specs.Parts.{touched_below, AreApart}
use Rattle.elf_headers.specs.declared.fault.LoadFault.{LoadFault}
use Rattle.elf_headers.specs.declared.fault.LoadFault.TheVariants.{Overlap, TooManyPages, EntryOutside}
use Rattle.elf_headers.specs.declared.program_header.ProgramHeader.{ProgramHeader}
use Rattle.elf_headers.specs.Below.{first_below, any_below, answers_below}
use Rattle.sm_types.specs.Checks.{first_fault, fault_when}
use Rattle.sm_types.specs.declared.limits.TheConstants.{PAGE_LIMIT}
use Rattle.elf_headers.specs.Header.{header_entry, program_header_count, length_fault, kind_fault}
use Rattle.elf_headers.specs.Header.{table_fault}
use Rattle.elf_headers.specs.Segments.{segment_of, is_load, segments_fault}

-- program header number i, where it is a load
abbrev pub load_of : List ℕ → ℕ → Option ProgramHeader
load_of file i = cond (is_load (segment_of file i)) (Some (segment_of file i)) None

-- the loads, in the order of their program headers
unfoldable pub loads_of : List ℕ → List ProgramHeader
loads_of file = answers_below (load_of file) (program_header_count file)

-- what a load takes into memory: its bytes of the file, with zeros after them
unfoldable pub extent_of_load : List ℕ → ProgramHeader → Extent
extent_of_load file s =
    record {
      address = s.address;
      size = s.memory_size;
      flags = s.flags % 8;
      bytes = take s.file_size (drop s.offset file);
    }

-- what the loads take into memory
abbrev pub extents_of : List ℕ → List Extent
extents_of file = map (extent_of_load file) (loads_of file)

-- the header has the address in memory
abbrev pub has_address : ProgramHeader → ℕ → Bool
has_address s a = nat_le s.address a && nat_lt a (s.address + s.memory_size)

-- two headers have an address in common, where each has at least one
abbrev pub share : ProgramHeader → ProgramHeader → Bool
share s t = nat_lt s.address (t.address + t.memory_size) && nat_lt t.address (s.address + s.memory_size)

-- program headers number i and j, i the lower, are loads that have an address in common
unfoldable pub overlap_at : List ℕ → ℕ → ℕ → Option LoadFault
overlap_at file i j =
    fault_when (nat_lt i j && is_load (segment_of file i) && is_load (segment_of file j)
    && share (segment_of file i) (segment_of file j)) (Overlap i j)

-- the least i, and for it the least j
unfoldable pub overlap_fault : List ℕ → Option LoadFault
overlap_fault file =
    first_below (λ i. first_below (overlap_at file i) (program_header_count file)) (program_header_count file)

-- the pages that the loads touch, and the stack's
abbrev pub page_sum : List ℕ → ℕ
page_sum file = touched_below (extents_of file) (2 ^ 35) + 64

unfoldable pub pages_fault : List ℕ → Option LoadFault
pages_fault file = fault_when (nat_lt PAGE_LIMIT (page_sum file)) (TooManyPages (page_sum file))

-- the header has PF_X, and the address in memory
abbrev pub has_executable : ProgramHeader → ℕ → Bool
has_executable s a = (s.flags % 2 == 1) && has_address s a

-- program header number i is a load that has the executable address
abbrev pub is_executable_at : List ℕ → ℕ → ℕ → Bool
is_executable_at file a i = is_load (segment_of file i) && has_executable (segment_of file i) a

-- the entry is a multiple of 4 in an executable load
unfoldable pub entry_fault : List ℕ → Option LoadFault
entry_fault file =
    fault_when (not ((header_entry file % 4 == 0)
    && any_below (is_executable_at file (header_entry file)) (program_header_count file)))
    (EntryOutside (header_entry file))

-- the first check on the headers that fails, in this order
unfoldable pub headers_fault : List ℕ → Option LoadFault
headers_fault file = first_fault (
    length_fault file ∷ kind_fault file ∷ table_fault file ∷ segments_fault file ∷ overlap_fault file
    ∷ pages_fault file ∷ entry_fault file ∷ [])

-- what the checks give of a load, in a file of that size
pub record IsSound (size : ℕ) (s : ProgramHeader) : Type 0 where
  pub some : 0 < s.memory_size
  pub bytes : s.file_size ≤ s.memory_size
  pub inside : 0 < s.file_size → s.offset + s.file_size ≤ size
  pub low : s.address + s.memory_size ≤ 2 ^ 47
  pub private : (s.address + s.memory_size ≤ 0x7DFFFFFC0000) ⊎ (0x7F0000001000 ≤ s.address)

-- what the checks give of the loads together
pub record AreSound (file : List ℕ) (loads : List ProgramHeader) : Type 0 where
  pub each : All (IsSound (length file)) loads
  pub apart : AreApart (map (extent_of_load file) loads)
  pub few : touched_below (map (extent_of_load file) loads) (2 ^ 35) ≤ 4032
