use Rattle.elf_writer.specs.Layout.{fields_bytes, segment_fields, segments_fields, text_segment, data_segment}
use Rattle.elf_writer.proofs.Fields.{fields_bytes-append}
use Rattle.elf_writer.proofs.Appending.{appended_last}
use Rattle.elf_writer.proofs.layout.put_segments.Goals as goal

pub returns : goal.returns
unfolding segments_fields
returns c =
    appended_last c.put_segment-2.result c.put_segment-2.new.out.items c.put_segment.new.out.items c.args.out.now.items
    (fields_bytes (segment_fields c.text_segment.result)) (fields_bytes (segment_fields c.data_segment.result))
    (fields_bytes (segments_fields c.args.layout.now)) c.in_ok-put_segment.ensures
    (rw (c.text_segment.ensures, c.data_segment.ensures)
    (fields_bytes-append (segment_fields (text_segment c.args.layout.now)) (segment_fields (data_segment c.args.layout.now))))
    c.put_segment-2.ensures
