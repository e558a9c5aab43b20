use Rattle.std.proofs.Common.{◌+◌, ◌-◌, replicate, refl}
use Rattle.elf_writer.specs.File.{data_part}
use Rattle.elf_writer.proofs.Appending.{appended_last}
use Rattle.elf_writer.proofs.file.put_data.Goals as goal

pub returns : goal.returns
unfolding data_part
returns c =
    appended_last c.put_zeros.result c.put_zeros.new.out.items c.extend_from_slice.new.self.items c.args.out.now.items c.args.bytes.now
    (replicate (c.symbols_offset.result - (c.data_offset.result + c.args.layout.now.data_size)) 0)
    (data_part c.args.layout.now c.args.bytes.now) c.in_ok-extend_from_slice.ensures.items
    (rw (c.symbols_offset.ensures.offset, c.data_offset.ensures.offset) refl) c.put_zeros.ensures
