use Rattle.std.proofs.Common.{◌++◌}
use Rattle.elf_writer.specs.Layout.{fields_bytes, section_fields, table_sections_fields, symbols_section, strings_section, strings_offset}
use Rattle.elf_writer.specs.Layout.{names_offset}
use Rattle.elf_writer.proofs.Appending.{appended, appended_last, fields_three}
use Rattle.elf_writer.proofs.layout.put_table_sections.Goals as goal

pub returns : goal.returns
unfolding table_sections_fields
returns c =
    appended_last c.put_section-3.result c.put_section-3.new.out.items c.put_section-2.new.out.items c.args.out.now.items
    (fields_bytes (section_fields 13 c.symbols_section.result c.args.layout.now.symbol_count 8)
    ++ fields_bytes (section_fields 21 c.strings_section-strings.result 0 1))
    (fields_bytes (section_fields 29 c.strings_section-names.result 0 1))
    (fields_bytes (table_sections_fields c.args.layout.now))
    (appended c.put_section-2.new.out.items c.put_section.new.out.items c.args.out.now.items
    (fields_bytes (section_fields 13 c.symbols_section.result c.args.layout.now.symbol_count 8))
    (fields_bytes (section_fields 21 c.strings_section-strings.result 0 1)) c.in_ok-put_section.ensures c.in_ok-put_section-2.ensures)
    (rw (c.symbols_section.ensures, c.strings_section-strings.ensures, c.strings_section-names.ensures)
    (fields_three (section_fields 13 (symbols_section c.args.layout.now) c.args.layout.now.symbol_count 8)
    (section_fields 21 (strings_section strings_offset 7) 0 1) (section_fields 29 (strings_section names_offset 39) 0 1)))
    c.put_section-3.ensures
