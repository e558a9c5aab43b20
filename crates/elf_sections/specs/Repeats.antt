-- Symbol tables that come again.
use Rattle.std.specs.Prelude.{ℕ, ◌-◌, Bool, List, ◌==◌, ◌&&◌, nat_lt}
use Rattle.elf_sections.specs.declared.section.SectionHeader.{SectionHeader}
use Rattle.elf_sections.specs.Sections.{section_of, is_symbol_table}

-- the two headers name the same bytes, with the same size of an entry and the same link
abbrev pub is_same_table : SectionHeader → SectionHeader → Bool
is_same_table s t =
    (s.offset == t.offset) && (s.size == t.size) && (s.link == t.link) && (s.entry_size == t.entry_size)

-- section number i is a symbol table, and the section before it is the same one
unfoldable pub repeats_table : List ℕ → ℕ → Bool
repeats_table file i =
    nat_lt 0 i && is_symbol_table (section_of file i) && is_symbol_table (section_of file (i - 1))
    && is_same_table (section_of file i) (section_of file (i - 1))
