-- The code words of a file: the words at multiples of 4 that lie wholly in a code section and begin with
-- code.
-- Source: ELF for the Arm 64-bit Architecture (AArch64), mapping symbols; this project for which words are
-- looked at.
use Rattle.std.specs.Prelude.{ℕ, ◌+◌, ◌*◌, ◌^◌, Bool, cond, List, [], ◌∷◌, Option, Some, None, ◌&&◌, nat_le}
use Rattle.sm_types.specs.Bytes.{little_number}
use Rattle.paged_memory.specs.Image.{or_zero, parts_byte}
use Rattle.elf_headers.specs.Below.{any_below, answers_below}
use Rattle.elf_headers.specs.Loads.{extents_of}
use Rattle.elf_sections.specs.declared.section.SectionHeader.{SectionHeader}
use Rattle.elf_sections.specs.Sections.{section_of, section_count, is_code_section, has_sections}
use Rattle.elf_sections.specs.MappingSymbols.{mapping_symbols_of, is_code_at}

-- the byte that the loads have at an address
abbrev pub loaded_byte : List ℕ → ℕ → ℕ
loaded_byte file a = or_zero (parts_byte (extents_of file) a)

-- the word of the four bytes from an address on
unfoldable pub loaded_word : List ℕ → ℕ → ℕ
loaded_word file a =
    little_number (loaded_byte file a ∷ loaded_byte file (a + 1) ∷ loaded_byte file (a + 2)
    ∷ loaded_byte file (a + 3) ∷ [])

-- four bytes from an address on lie in the section
abbrev pub has_word : SectionHeader → ℕ → Bool
has_word s a = nat_le s.address a && nat_le (a + 4) (s.address + s.size)

-- section number i makes the word at an address code
abbrev pub is_code_in : List ℕ → ℕ → ℕ → Bool
is_code_in file a i =
    is_code_section (section_of file i) && has_word (section_of file i) a
    && is_code_at (mapping_symbols_of file) i a

-- a section makes the word at an address code
unfoldable pub is_code_word : List ℕ → ℕ → Bool
is_code_word file a = any_below (is_code_in file a) (section_count file)

-- the word at 4 * n with its address, where it is code
unfoldable pub code_word : List ℕ → ℕ → Option (ℕ × ℕ)
code_word file n = cond (is_code_word file (4 * n)) (Some (4 * n, loaded_word file (4 * n))) None

-- the code words with their addresses, in order of address; a file without a section table has none
unfoldable pub code_words : List ℕ → List (ℕ × ℕ)
code_words file = cond (has_sections file) (answers_below (code_word file) (2 ^ 45)) []
