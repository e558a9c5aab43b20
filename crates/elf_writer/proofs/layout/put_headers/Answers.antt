use Rattle.std.proofs.Common.{◌++◌}
use Rattle.elf_writer.specs.Layout.{fields_bytes, header_fields, segments_fields, part_sections_fields, table_sections_fields, all_fields}
use Rattle.elf_writer.proofs.Appending.{appended, appended_last, fields_four}
use Rattle.elf_writer.proofs.layout.put_headers.Goals as goal

pub returns : goal.returns
unfolding all_fields
returns c =
    appended_last c.put_table_sections.result c.put_table_sections.new.out.items c.put_part_sections.new.out.items c.args.out.now.items
    ((fields_bytes (header_fields c.args.layout.now) ++ fields_bytes (segments_fields c.args.layout.now))
    ++ fields_bytes (part_sections_fields c.args.layout.now)) (fields_bytes (table_sections_fields c.args.layout.now))
    (fields_bytes (all_fields c.args.layout.now))
    (appended c.put_part_sections.new.out.items c.put_segments.new.out.items c.args.out.now.items
    (fields_bytes (header_fields c.args.layout.now) ++ fields_bytes (segments_fields c.args.layout.now))
    (fields_bytes (part_sections_fields c.args.layout.now))
    (appended c.put_segments.new.out.items c.put_header.new.out.items c.args.out.now.items (fields_bytes (header_fields c.args.layout.now))
    (fields_bytes (segments_fields c.args.layout.now)) c.in_ok-put_header.ensures c.in_ok-put_segments.ensures)
    c.in_ok-put_part_sections.ensures)
    (fields_four (header_fields c.args.layout.now) (segments_fields c.args.layout.now) (part_sections_fields c.args.layout.now)
    (table_sections_fields c.args.layout.now)) c.put_table_sections.ensures
