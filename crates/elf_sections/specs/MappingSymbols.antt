-- Mapping symbols: which bytes of a section are code, and which are data.
-- Source: ELF for the Arm 64-bit Architecture (AArch64), mapping symbols `$x` and `$d`, by name alone.
use Rattle.std.specs.Prelude.{◌≡◌, ◌<◌, ◌≤◌, length, ℕ, zero, suc, ◌+◌, Bool, cond, List, []}
use Rattle.std.specs.Prelude.{◌∷◌}
use Rattle.std.specs.Prelude.{◌++◌, drop, Option, Some, None, option_map, ◌==◌}
use Rattle.std.specs.List.{filter_map}
use Rattle.sm_types.specs.Objects.{name_says, Mapping, governing_mapping, mapping_says, is_code}
use Rattle.elf_headers.specs.Below.{answers_below}
use Rattle.elf_headers.specs.Header.{number_at}
use Rattle.elf_sections.specs.declared.section.SectionHeader.{SectionHeader}
use Rattle.elf_sections.specs.declared.mapping_symbols.MappingSymbol.{MappingSymbol}
use Rattle.elf_sections.specs.Sections.{section_of, section_count, is_symbol_table, symbol_count}
use Rattle.elf_sections.specs.Sections.{symbol_offset}
use Rattle.elf_sections.specs.Sections.{strings_of}

-- the bytes before the first zero
abbrev pub until_zero : List ℕ → List ℕ
until_zero [] = []
until_zero (c ∷ cs) = cond (c == 0) [] (c ∷ until_zero cs)

-- the name that begins at an offset in the file
abbrev pub name_in : List ℕ → ℕ → List ℕ
name_in file offset = until_zero (drop offset file)

-- a zero byte stands at the offset or further on in the file
abbrev pub HasEnd : List ℕ → ℕ → Type 0
HasEnd file offset = (p : ℕ) × (offset ≤ p) × (p < length file) × (number_at file p 1 ≡ 0)

-- where the name of the symbol at an offset begins
abbrev pub name_offset : List ℕ → SectionHeader → ℕ → ℕ
name_offset file strings offset = strings.offset + number_at file offset 4

-- the symbol at an offset, by its st_shndx and st_value, where its name is a mapping symbol's
unfoldable pub mapping_symbol_at : List ℕ → SectionHeader → ℕ → Option MappingSymbol
mapping_symbol_at file strings offset =
    option_map (λ says. record {
      section = number_at file (offset + 6) 2;
      value = number_at file (offset + 8) 8;
      content = says;
    })
    (name_says (name_in file (name_offset file strings offset)))

-- the mapping symbols of a symbol table, in the order of its symbols
unfoldable pub table_mapping_symbols : List ℕ → SectionHeader → List MappingSymbol
table_mapping_symbols file s =
    answers_below (λ k. mapping_symbol_at file (strings_of file s) (symbol_offset s k)) (symbol_count s)

-- the mapping symbols of section number i, where it is a symbol table
abbrev pub mapping_symbols_in : List ℕ → ℕ → List MappingSymbol
mapping_symbols_in file i =
    cond (is_symbol_table (section_of file i)) (table_mapping_symbols file (section_of file i)) []

-- the mapping symbols of the symbol tables among the first n sections, in the order of the sections
unfoldable pub mapping_symbols_below : List ℕ → ℕ → List MappingSymbol
mapping_symbols_below file zero = []
mapping_symbols_below file (suc n) = mapping_symbols_below file n ++ mapping_symbols_in file n

-- the mapping symbols of all symbol tables
abbrev pub mapping_symbols_of : List ℕ → List MappingSymbol
mapping_symbols_of file = mapping_symbols_below file (section_count file)

-- what a mapping symbol says of the section: code or data from its value on; one of another section says
-- nothing
abbrev pub mapping_in : ℕ → MappingSymbol → Option Mapping
mapping_in section m =
    cond (m.section == section) (Some (record { address = m.value; content = m.content })) None

-- by these mapping symbols the byte at an address of the section begins code
unfoldable pub is_code_at : List MappingSymbol → ℕ → ℕ → Bool
is_code_at symbols section a =
    is_code (mapping_says (governing_mapping a None (filter_map (mapping_in section) symbols)))
