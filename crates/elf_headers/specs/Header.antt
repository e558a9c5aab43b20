-- The file's header, and the checks on it.
-- Source: ELF-64 Object File Format, the table of Elf64_Ehdr, of which offsets and widths are in bytes.
use Rattle.std.specs.Prelude.{ℕ, ◌+◌, ◌*◌, ◌-◌, ◌^◌, ◌≤◌, Bool, List, [], ◌∷◌, length, drop, Option, ◌==◌}
use Rattle.std.specs.Prelude.{◌&&◌, ◌||◌, not, nat_lt}
use Rattle.byteorder.specs.Endian.{little_number}
use Rattle.elf_headers.specs.declared.fault.LoadFault.{LoadFault}
use Rattle.elf_headers.specs.declared.fault.LoadFault.TheVariants.{TooLong, Truncated, NotElf, NotThisMachine}
use Rattle.elf_headers.specs.declared.fault.LoadFault.TheVariants.{NotStatic, BadTable}
use Rattle.sm_types.specs.Checks.{first_fault, fault_when}
use Rattle.sm_types.specs.declared.limits.TheConstants.{FILE_LIMIT}

-- the little-endian number of n bytes at an offset in the file
unfoldable pub number_at : List ℕ → ℕ → ℕ → ℕ
number_at file offset n = little_number n (drop offset file)

-- e_type
abbrev pub header_type : List ℕ → ℕ
header_type file = number_at file 16 2

-- e_machine
abbrev pub header_machine : List ℕ → ℕ
header_machine file = number_at file 18 2

-- e_entry
abbrev pub header_entry : List ℕ → ℕ
header_entry file = number_at file 24 8

-- e_phoff, the offset of the program headers
abbrev pub program_headers_offset : List ℕ → ℕ
program_headers_offset file = number_at file 32 8

-- e_phentsize, the size of a program header
abbrev pub program_header_size : List ℕ → ℕ
program_header_size file = number_at file 54 2

-- e_phnum, the number of program headers
abbrev pub program_header_count : List ℕ → ℕ
program_header_count file = number_at file 56 2

-- 7F 45 4C 46, 64 bits, little-endian, version 1
abbrev pub is_elf : List ℕ → Bool
is_elf file =
    (number_at file 0 4 == 0x464C457F) && (number_at file 4 2 == 0x0102) && (number_at file 6 1 == 1)

-- more than 64 MiB, or less than a header
unfoldable pub length_fault : List ℕ → Option LoadFault
length_fault file = first_fault (
    fault_when (nat_lt FILE_LIMIT (length file)) TooLong
    ∷ fault_when (nat_lt (length file) 64) (Truncated (length file))
    ∷ [])

-- no ELF64 file, one of another machine, or no executable
unfoldable pub kind_fault : List ℕ → Option LoadFault
kind_fault file = first_fault (
    fault_when (not (is_elf file)) NotElf
    ∷ fault_when (not (header_machine file == 183)) (NotThisMachine (header_machine file))
    ∷ fault_when (not (header_type file == 2)) (NotStatic (header_type file))
    ∷ [])

-- where a table of entries ends
abbrev pub table_end : ℕ → ℕ → ℕ → ℕ
table_end offset size count = offset + size * count

-- the table of program headers: their size is 56, there are 1 to 65,534, and the table lies below 2 ^ 64
-- and in the file
unfoldable pub table_fault : List ℕ → Option LoadFault
table_fault file = first_fault (
    fault_when (not (program_header_size file == 56)
    || (program_header_count file == 0) || (program_header_count file == 65535)
    || nat_lt (2 ^ 64 - 1) (table_end (program_headers_offset file) 56 (program_header_count file)))
    (BadTable (program_headers_offset file))
    ∷ fault_when (nat_lt (length file)
    (table_end (program_headers_offset file) 56 (program_header_count file)))
    (Truncated (length file))
    ∷ [])

-- the header and the table of program headers are in the file
pub record HasTable (file : List ℕ) : Type 0 where
  pub header : 64 ≤ length file
  pub table : table_end (program_headers_offset file) 56 (program_header_count file) ≤ length file
