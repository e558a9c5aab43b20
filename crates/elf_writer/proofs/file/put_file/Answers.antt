use Rattle.std.proofs.Common.{◌++◌}
use Rattle.elf_writer.specs.File.{front_bytes, text_part, data_part, symbols_bytes, file_bytes}
use Rattle.elf_writer.proofs.Appending.{appended, appended_last, file_joined}
use Rattle.elf_writer.proofs.file.put_file.Goals as goal

pub returns : goal.returns
unfolding file_bytes
returns c =
    appended_last c.put_symbols.result c.put_symbols.new.out.items c.put_data.new.out.items c.args.out.now.items
    ((front_bytes c.args.layout.now ++ text_part c.args.layout.now c.as_slice.result.now)
    ++ data_part c.args.layout.now c.as_slice-2.result.now) (symbols_bytes c.args.mappings.now)
    (file_bytes c.args.layout.now c.args.object.now.text_bytes.items c.args.object.now.data_bytes.items c.args.mappings.now)
    (appended c.put_data.new.out.items c.put_text.new.out.items c.args.out.now.items
    (front_bytes c.args.layout.now ++ text_part c.args.layout.now c.as_slice.result.now)
    (data_part c.args.layout.now c.as_slice-2.result.now)
    (appended c.put_text.new.out.items c.put_front.new.out.items c.args.out.now.items (front_bytes c.args.layout.now)
    (text_part c.args.layout.now c.as_slice.result.now) c.in_ok-put_front.ensures c.in_ok-put_text.ensures)
    c.in_ok-put_data.ensures)
    (rw (c.as_slice.ensures.value, c.as_slice-2.ensures.value)
    (file_joined (front_bytes c.args.layout.now) (text_part c.args.layout.now c.args.object.now.text_bytes.items)
    (data_part c.args.layout.now c.args.object.now.data_bytes.items) (symbols_bytes c.args.mappings.now))) c.put_symbols.ensures
