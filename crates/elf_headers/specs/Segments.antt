-- The program headers, and the checks on each by itself.
-- Source: ELF-64 Object File Format, the table of Elf64_Phdr; the address space is this emulator's own.
use Rattle.std.specs.Prelude.{ℕ, ◌+◌, ◌*◌, ◌-◌, ◌^◌, Bool, List, [], ◌∷◌, length, Option, ◌==◌, ◌&&◌, ◌||◌}
use Rattle.std.specs.Prelude.{not, nat_lt}
use Rattle.elf_headers.specs.declared.fault.LoadFault.{LoadFault}
use Rattle.elf_headers.specs.declared.fault.LoadFault.TheVariants.{Truncated, NotStatic, BadTable, InShared}
use Rattle.elf_headers.specs.declared.program_header.ProgramHeader.{ProgramHeader}
use Rattle.elf_headers.specs.Below.{first_below}
use Rattle.sm_types.specs.Checks.{first_fault, fault_when, fault_only}
use Rattle.elf_headers.specs.Header.{number_at, program_headers_offset, program_header_count}

-- the offset of program header number i
abbrev pub program_header_offset : List ℕ → ℕ → ℕ
program_header_offset file i = program_headers_offset file + 56 * i

-- the program header at an offset in the file
unfoldable pub program_header : List ℕ → ℕ → ProgramHeader
program_header file offset = record {
  kind = number_at file offset 4;
  flags = number_at file (offset + 4) 4;
  offset = number_at file (offset + 8) 8;
  address = number_at file (offset + 16) 8;
  file_size = number_at file (offset + 32) 8;
  memory_size = number_at file (offset + 40) 8;
}

-- program header number i
abbrev pub segment_of : List ℕ → ℕ → ProgramHeader
segment_of file i = program_header file (program_header_offset file i)

-- PT_DYNAMIC, PT_INTERP or PT_TLS
abbrev pub is_dynamic : ProgramHeader → Bool
is_dynamic s = (s.kind == 2) || (s.kind == 3) || (s.kind == 7)

-- PT_LOAD, but one that has no byte
abbrev pub is_load : ProgramHeader → Bool
is_load s = (s.kind == 1) && not ((s.memory_size == 0) && (s.file_size == 0))

-- a byte from the first of the stack to the last of the shared region
abbrev pub is_in_shared : ProgramHeader → Bool
is_in_shared s = nat_lt s.address 0x7F0000001000 && nat_lt 0x7DFFFFFC0000 (s.address + s.memory_size)

-- the checks on a load: its bytes in the file are no more than those in memory, it ends at most at 2 ^ 47
-- and below 2 ^ 64 in the file, its bytes are in the file, and it has no address of the stack, of the
-- shared region or between them
unfoldable pub load_fault_of : ℕ → ℕ → ℕ → ProgramHeader → Option LoadFault
load_fault_of size offset i s = first_fault (
    fault_when (nat_lt s.memory_size s.file_size) (BadTable offset)
    ∷ fault_when (nat_lt (2 ^ 47) (s.address + s.memory_size)
    || nat_lt (2 ^ 64 - 1) (s.offset + s.file_size)) (BadTable offset)
    ∷ fault_when (nat_lt 0 s.file_size && nat_lt size (s.offset + s.file_size)) (Truncated size)
    ∷ fault_when (is_in_shared s) (InShared i)
    ∷ [])

-- the checks on program header number i
unfoldable pub segment_fault : List ℕ → ℕ → Option LoadFault
segment_fault file i = first_fault (
    fault_when (is_dynamic (segment_of file i)) (NotStatic (segment_of file i).kind)
    ∷ fault_only (is_load (segment_of file i)) (load_fault_of (length file) (program_header_offset file i) i
    (segment_of file i))
    ∷ [])

-- the first program header that fails a check
unfoldable pub segments_fault : List ℕ → Option LoadFault
segments_fault file = first_below (segment_fault file) (program_header_count file)
