-- The section table, and the checks on it and on each section.
-- Source: ELF-64 Object File Format, the tables of Elf64_Ehdr, Elf64_Shdr and Elf64_Sym, of which offsets
-- and widths are in bytes.
use Rattle.std.specs.Prelude.{ℕ, ◌+◌, ◌*◌, ◌-◌, ◌/◌, ◌%◌, ◌^◌, ◌≤◌, Bool, List, [], ◌∷◌, length, Option, ◌==◌}
use Rattle.std.specs.Prelude.{◌&&◌, ◌||◌, not, nat_lt, nat_le, is_some}
use Rattle.paged_memory.specs.Image.{parts_byte}
use Rattle.elf_headers.specs.declared.fault.LoadFault.{LoadFault}
use Rattle.elf_headers.specs.declared.fault.LoadFault.TheVariants.{Truncated, BadTable}
use Rattle.elf_headers.specs.Below.{first_below, any_below, all_below}
use Rattle.sm_types.specs.Checks.{first_fault, fault_when, fault_only}
use Rattle.elf_headers.specs.Header.{number_at, table_end}
use Rattle.elf_headers.specs.Loads.{extents_of}
use Rattle.elf_sections.specs.declared.section.SectionHeader.{SectionHeader}

-- e_shoff, the offset of the section headers, or 0 where there are none
abbrev pub section_headers_offset : List ℕ → ℕ
section_headers_offset file = number_at file 40 8

-- e_shentsize, the size of a section header
abbrev pub section_header_size : List ℕ → ℕ
section_header_size file = number_at file 58 2

-- e_shnum, the number of section headers
abbrev pub section_count : List ℕ → ℕ
section_count file = number_at file 60 2

-- the table of section headers: their size is 64, there is one at least, and the table lies below 2 ^ 64
-- and in the file
unfoldable pub section_table_fault : List ℕ → Option LoadFault
section_table_fault file = first_fault (
    fault_when (not (section_header_size file == 64) || (section_count file == 0)
    || nat_lt (2 ^ 64 - 1) (table_end (section_headers_offset file) 64 (section_count file)))
    (BadTable (section_headers_offset file))
    ∷ fault_when (nat_lt (length file) (table_end (section_headers_offset file) 64 (section_count file)))
    (Truncated (length file))
    ∷ [])

-- the header and the table of section headers are in the file
pub record HasSectionTable (file : List ℕ) : Type 0 where
  pub header : 64 ≤ length file
  pub table : table_end (section_headers_offset file) 64 (section_count file) ≤ length file

-- the offset of section header number i
abbrev pub section_header_offset : List ℕ → ℕ → ℕ
section_header_offset file i = section_headers_offset file + 64 * i

-- the section header at an offset in the file
unfoldable pub section_header : List ℕ → ℕ → SectionHeader
section_header file offset = record {
  kind = number_at file (offset + 4) 4;
  flags = number_at file (offset + 8) 8;
  address = number_at file (offset + 16) 8;
  offset = number_at file (offset + 24) 8;
  size = number_at file (offset + 32) 8;
  link = number_at file (offset + 40) 4;
  entry_size = number_at file (offset + 56) 8;
}

-- section header number i
abbrev pub section_of : List ℕ → ℕ → SectionHeader
section_of file i = section_header file (section_header_offset file i)

-- ---- symbol tables

-- SHT_SYMTAB
abbrev pub is_symbol_table : SectionHeader → Bool
is_symbol_table s = s.kind == 2

-- the section's bytes are in the file; one of no bytes has them anywhere
abbrev pub is_in_file : List ℕ → SectionHeader → Bool
is_in_file file s = (s.size == 0) || nat_le (s.offset + s.size) (length file)

-- how many whole symbols a table has
abbrev pub symbol_count : SectionHeader → ℕ
symbol_count s = s.size / 24

-- the offset of symbol number k of a table
abbrev pub symbol_offset : SectionHeader → ℕ → ℕ
symbol_offset s k = s.offset + 24 * k

-- st_name: where the name begins in the string table
abbrev pub symbol_name : List ℕ → SectionHeader → ℕ → ℕ
symbol_name file s k = number_at file (symbol_offset s k) 4

-- the string table that a symbol table names
abbrev pub strings_of : List ℕ → SectionHeader → SectionHeader
strings_of file s = section_of file s.link

-- a name that begins there ends inside the string table: a zero byte stands there or further on
unfoldable pub ends_inside : List ℕ → SectionHeader → ℕ → Bool
ends_inside file strings name =
    any_below (λ p. nat_le name p && (number_at file (strings.offset + p) 1 == 0)) strings.size

-- the names of all symbols end inside the string table
unfoldable pub has_names : List ℕ → SectionHeader → Bool
has_names file s =
    all_below (λ k. ends_inside file (strings_of file s) (symbol_name file s k)) (symbol_count s)

-- a symbol table has entries of 24 bytes, is linked to a section, both have their bytes in the file, and
-- its names end in the linked one
unfoldable pub is_good_table : List ℕ → SectionHeader → Bool
is_good_table file s =
    (s.entry_size == 24) && nat_lt s.link (section_count file) && is_in_file file s
    && is_in_file file (strings_of file s) && has_names file s

-- ---- code sections

-- SHT_PROGBITS with SHF_EXECINSTR
abbrev pub is_code_section : SectionHeader → Bool
is_code_section s = (s.kind == 1) && (s.flags / 4 % 2 == 1)

-- a load has the address
abbrev pub is_loaded : List ℕ → ℕ → Bool
is_loaded file a = is_some (parts_byte (extents_of file) a)

-- each address of the section is in a load
unfoldable pub is_all_loaded : List ℕ → SectionHeader → Bool
is_all_loaded file s = all_below (λ k. is_loaded file (s.address + k)) s.size

-- the checks on section number i
unfoldable pub section_fault : List ℕ → ℕ → Option LoadFault
section_fault file i = first_fault (
    fault_only (is_symbol_table (section_of file i)) (fault_when
    (not (is_good_table file (section_of file i))) (BadTable (section_header_offset file i)))
    ∷ fault_only (is_code_section (section_of file i)) (fault_when
    (not (is_all_loaded file (section_of file i))) (BadTable (section_header_offset file i)))
    ∷ [])

-- the file has a section table
abbrev pub has_sections : List ℕ → Bool
has_sections file = not (section_headers_offset file == 0)

-- the first check on the section table that fails, where there is one
unfoldable pub sections_fault : List ℕ → Option LoadFault
sections_fault file =
    fault_only (has_sections file) (first_fault (section_table_fault file
    ∷ first_below (section_fault file) (section_count file) ∷ []))
