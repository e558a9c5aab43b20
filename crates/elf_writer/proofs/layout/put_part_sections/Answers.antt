use Rattle.std.proofs.Common.{◌++◌}
use Rattle.elf_writer.specs.Layout.{fields_bytes, section_fields, part_sections_fields, text_section, data_section, no_section}
use Rattle.elf_writer.proofs.Appending.{appended, appended_last, fields_three}
use Rattle.elf_writer.proofs.layout.put_part_sections.Goals as goal

pub returns : goal.returns
unfolding part_sections_fields
returns c =
    appended_last c.put_section-3.result c.put_section-3.new.out.items c.put_section-2.new.out.items c.args.out.now.items
    (fields_bytes (section_fields 0 no_section 0 0) ++ fields_bytes (section_fields 1 c.text_section.result 0 4))
    (fields_bytes (section_fields 7 c.data_section.result 0 8))
    (fields_bytes (part_sections_fields c.args.layout.now))
    (appended c.put_section-2.new.out.items c.put_section.new.out.items c.args.out.now.items
    (fields_bytes (section_fields 0 no_section 0 0)) (fields_bytes (section_fields 1 c.text_section.result 0 4))
    c.in_ok-put_section.ensures c.in_ok-put_section-2.ensures)
    (rw (c.text_section.ensures, c.data_section.ensures)
    (fields_three (section_fields 0 no_section 0 0) (section_fields 1 (text_section c.args.layout.now) 0 4)
    (section_fields 7 (data_section c.args.layout.now) 0 8))) c.put_section-3.ensures
