-- The headers of a file that is written: its own, its program headers and its section headers.
-- Source: ELF-64 Object File Format, the tables of Elf64_Ehdr, Elf64_Phdr and Elf64_Shdr; the offsets are
-- this project's own.
use Rattle.std.specs.Prelude.{ℕ, ◌+◌, ◌*◌, ◌/◌, ◌≤◌, ◌<◌, ◌^◌, Bool, true, cond, List, [], ◌∷◌, ◌++◌, ◌==◌}
use Rattle.std.specs.Prelude.{◌&&◌, nat_le}
use Rattle.byteorder.specs.Endian.{little_bytes}
use Rattle.sm_types.specs.Objects.{text_address, data_address, page_after}
use Rattle.elf_headers.specs.declared.program_header.ProgramHeader.{ProgramHeader}
use Rattle.elf_sections.specs.declared.section.SectionHeader.{SectionHeader}
use Rattle.elf_writer.specs.declared.layout.Layout.{Layout}

-- fields of a width in bytes and a value, little-endian
abbrev pub fields_bytes : List (ℕ × ℕ) → List ℕ
fields_bytes [] = []
fields_bytes (field ∷ fields) = little_bytes field.0 field.1 ++ fields_bytes fields

-- each field is at most 8 bytes wide
abbrev pub are_narrow : List (ℕ × ℕ) → Bool
are_narrow [] = true
are_narrow (field ∷ fields) = nat_le field.0 8 && are_narrow fields

-- where the text, its section table and its string tables stand in the file
abbrev pub text_offset : ℕ
text_offset = 4096

abbrev pub section_table_offset : ℕ
section_table_offset = 176

abbrev pub strings_offset : ℕ
strings_offset = 560

abbrev pub names_offset : ℕ
names_offset = 568

-- where the data stands in the file: at the first page after the text
unfoldable pub data_offset : Layout → ℕ
data_offset l = page_after (text_offset + l.text_size)

-- where the symbols stand in the file: at the first multiple of 8 after the data
unfoldable pub symbols_offset : Layout → ℕ
symbols_offset l = (data_offset l + l.data_size + 7) / 8 * 8

-- at most 4 MiB of text and as much data; the symbols are at most one for each word of the text, and the
-- null symbol
pub record IsSmall (l : Layout) : Type 0 where
  pub text : l.text_size ≤ 4194304
  pub data_bytes : l.data_size ≤ 4194304
  pub symbols : l.symbol_count ≤ 1048577
  pub entry : l.entry < 2 ^ 64

-- an object without data has one load
abbrev pub load_count : Layout → ℕ
load_count l = cond (l.data_size == 0) 1 2

-- ---- the loads

unfoldable pub text_segment : Layout → ProgramHeader
text_segment l =
    record {
      kind = 1;
      flags = 5;
      offset = text_offset;
      address = text_address;
      file_size = l.text_size;
      memory_size = l.text_size;
    }

abbrev pub full_data_segment : Layout → ProgramHeader
full_data_segment l =
    record {
      kind = 1;
      flags = 6;
      offset = data_offset l;
      address = data_address l.text_size;
      file_size = l.data_size;
      memory_size = l.data_size;
    }

abbrev pub no_segment : ProgramHeader
no_segment = record { kind = 0; flags = 0; offset = 0; address = 0; file_size = 0; memory_size = 0 }

-- the load of the data, and zeros where there is no data
unfoldable pub data_segment : Layout → ProgramHeader
data_segment l = cond (l.data_size == 0) no_segment (full_data_segment l)

-- a load begins at a multiple of 4096
abbrev pub segment_align : ProgramHeader → ℕ
segment_align s = cond (s.kind == 0) 0 4096

-- ---- the sections

abbrev pub no_section : SectionHeader
no_section = record { kind = 0; flags = 0; address = 0; offset = 0; size = 0; link = 0; entry_size = 0 }

-- SHT_PROGBITS with SHF_ALLOC and SHF_EXECINSTR
unfoldable pub text_section : Layout → SectionHeader
text_section l =
    record {
      kind = 1;
      flags = 6;
      address = text_address;
      offset = text_offset;
      size = l.text_size;
      link = 0;
      entry_size = 0;
    }

-- SHT_PROGBITS with SHF_WRITE and SHF_ALLOC
unfoldable pub data_section : Layout → SectionHeader
data_section l =
    record {
      kind = 1;
      flags = 3;
      address = data_address l.text_size;
      offset = data_offset l;
      size = l.data_size;
      link = 0;
      entry_size = 0;
    }

-- SHT_SYMTAB, with its strings in section number 4
unfoldable pub symbols_section : Layout → SectionHeader
symbols_section l =
    record {
      kind = 2;
      flags = 0;
      address = 0;
      offset = symbols_offset l;
      size = 24
          * l.symbol_count;
      link = 4;
      entry_size = 24;
    }

-- SHT_STRTAB
unfoldable pub strings_section : ℕ → ℕ → SectionHeader
strings_section offset size =
    record { kind = 3; flags = 0; address = 0; offset = offset; size = size; link = 0; entry_size = 0 }

-- ---- the fields

-- e_ident (ELF64, little-endian, version 1, and zeros), e_type (an executable), e_machine (AArch64),
-- e_version, e_entry, e_phoff, e_shoff, e_flags, e_ehsize, e_phentsize, e_phnum, e_shentsize, e_shnum,
-- e_shstrndx
unfoldable pub header_fields : Layout → List (ℕ × ℕ)
header_fields l =
    (4, 0x464C457F) ∷ (2, 0x0102) ∷ (1, 1) ∷ (1, 0) ∷ (8, 0)
    ∷ (2, 2) ∷ (2, 183) ∷ (4, 1) ∷ (8, l.entry) ∷ (8, 64) ∷ (8, section_table_offset) ∷ (4, 0)
    ∷ (2, 64) ∷ (2, 56) ∷ (2, load_count l) ∷ (2, 64) ∷ (2, 6) ∷ (2, 5)
    ∷ []

-- p_type, p_flags, p_offset, p_vaddr, p_paddr, p_filesz, p_memsz, p_align
unfoldable pub segment_fields : ProgramHeader → List (ℕ × ℕ)
segment_fields s =
    (4, s.kind) ∷ (4, s.flags) ∷ (8, s.offset) ∷ (8, s.address) ∷ (8, s.address) ∷ (8, s.file_size)
    ∷ (8, s.memory_size) ∷ (8, segment_align s)
    ∷ []

-- sh_name, sh_type, sh_flags, sh_addr, sh_offset, sh_size, sh_link, sh_info, sh_addralign, sh_entsize
unfoldable pub section_fields : ℕ → SectionHeader → ℕ → ℕ → List (ℕ × ℕ)
section_fields name s info align =
    (4, name) ∷ (4, s.kind) ∷ (8, s.flags) ∷ (8, s.address) ∷ (8, s.offset) ∷ (8, s.size) ∷ (4, s.link)
    ∷ (4, info) ∷ (8, align) ∷ (8, s.entry_size)
    ∷ []

-- the program headers
unfoldable pub segments_fields : Layout → List (ℕ × ℕ)
segments_fields l = segment_fields (text_segment l) ++ segment_fields (data_segment l)

-- the section headers of the object's parts: none, .text and .data
unfoldable pub part_sections_fields : Layout → List (ℕ × ℕ)
part_sections_fields l =
    section_fields 0 no_section 0 0 ++ (section_fields 1 (text_section l) 0 4
    ++ section_fields 7 (data_section l) 0 8)

-- the section headers of the tables: .symtab with all its symbols local, .strtab and .shstrtab
unfoldable pub table_sections_fields : Layout → List (ℕ × ℕ)
table_sections_fields l =
    section_fields 13 (symbols_section l) l.symbol_count 8
    ++ (section_fields 21 (strings_section strings_offset 7) 0 1
    ++ section_fields 29 (strings_section names_offset 39) 0 1)

-- all header fields
unfoldable pub all_fields : Layout → List (ℕ × ℕ)
all_fields l = header_fields l ++ (segments_fields l ++ (part_sections_fields l ++ table_sections_fields l))
