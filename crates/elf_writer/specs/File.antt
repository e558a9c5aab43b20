-- The file of an object.
-- Source: ELF-64 Object File Format, Elf64_Sym; ELF for the Arm 64-bit Architecture (AArch64), mapping
-- symbols; the offsets are this project's own.
use Rattle.std.specs.Prelude.{ℕ, suc, ◌+◌, ◌-◌, List, [], ◌∷◌, ◌++◌, length, replicate, codes}
use Rattle.sm_types.specs.declared.object.Content.{Content}
use Rattle.sm_types.specs.declared.object.Content.TheVariants as content
use Rattle.sm_types.specs.declared.object.Object.{Object}
use Rattle.elf_writer.specs.declared.layout.Layout.{Layout}
use Rattle.elf_writer.specs.declared.mapping_symbols.TextMapping.{TextMapping}
use Rattle.elf_writer.specs.TextMappings.{text_mappings}
use Rattle.elf_writer.specs.Layout.{all_fields, fields_bytes, data_offset, symbols_offset, text_offset}

-- the names of the mapping symbols, each ended by a zero byte, after that of the null symbol
abbrev pub symbol_names : List ℕ
symbol_names = 0 ∷ (codes "$x" ++ (0 ∷ (codes "$d" ++ (0 ∷ []))))

-- the names of the sections, each ended by a zero byte, after that of the null section
abbrev pub section_names : List ℕ
section_names =
    0 ∷ (codes ".text" ++ (0 ∷ (codes ".data"
    ++ (0 ∷ (codes ".symtab" ++ (0 ∷ (codes ".strtab" ++ (0 ∷ (codes ".shstrtab" ++ (0 ∷ []))))))))))

-- where the name of a mapping symbol stands in the string table: `$x` at 1, `$d` at 4
abbrev pub name_index : Content → ℕ
name_index content.Code = 1
name_index content.Data = 4

-- a local symbol of section 1 without a type
unfoldable pub symbol_fields : TextMapping → List (ℕ × ℕ)
symbol_fields m = (4, name_index m.content) ∷ (1, 0) ∷ (1, 0) ∷ (2, 1) ∷ (8, m.address) ∷ (8, 0) ∷ []

-- the symbols of mapping symbols
abbrev pub mapping_bytes : List TextMapping → List ℕ
mapping_bytes [] = []
mapping_bytes (m ∷ mappings) = fields_bytes (symbol_fields m) ++ mapping_bytes mappings

-- the symbol table: the null symbol, and those of the mapping symbols
unfoldable pub symbols_bytes : List TextMapping → List ℕ
symbols_bytes mappings = replicate 24 0 ++ mapping_bytes mappings

-- the headers, the names of symbols and sections, and zeros up to the text
unfoldable pub front_bytes : Layout → List ℕ
front_bytes l = fields_bytes (all_fields l) ++ (symbol_names ++ (0 ∷ (section_names ++ replicate 3489 0)))

-- the text, and zeros up to the data
unfoldable pub text_part : Layout → List ℕ → List ℕ
text_part l text = text ++ replicate (data_offset l - (text_offset + l.text_size)) 0

-- the data, and zeros up to the symbols
unfoldable pub data_part : Layout → List ℕ → List ℕ
data_part l data_bytes = data_bytes ++ replicate (symbols_offset l - (data_offset l + l.data_size)) 0

-- the parts of the file
unfoldable pub file_bytes : Layout → List ℕ → List ℕ → List TextMapping → List ℕ
file_bytes l text data_bytes mappings =
    front_bytes l ++ (text_part l text ++ (data_part l data_bytes ++ symbols_bytes mappings))

-- the sizes of an object's parts
unfoldable pub layout_of : Object → List TextMapping → Layout
layout_of o mappings =
    record {
      entry = o.entry;
      text_size = length o.text_bytes.items;
      data_size = length o.data_bytes.items;
      symbol_count = suc (length mappings);
    }

-- the file of an object
unfoldable pub file_of : Object → List ℕ
file_of o = file_bytes (layout_of o (text_mappings o)) o.text_bytes.items o.data_bytes.items (text_mappings o)
