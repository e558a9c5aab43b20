use Rattle.std.proofs.Common.{◌+◌, ◌-◌, replicate, refl}
use Rattle.elf_writer.specs.File.{text_part}
use Rattle.elf_writer.proofs.Appending.{appended_last}
use Rattle.elf_writer.proofs.file.put_text.Goals as goal

pub returns : goal.returns
unfolding text_part
returns c =
    appended_last c.put_zeros.result c.put_zeros.new.out.items c.extend_from_slice.new.self.items c.args.out.now.items c.args.text.now
    (replicate (c.data_offset.result - (4096 + c.args.layout.now.text_size)) 0)
    (text_part c.args.layout.now c.args.text.now) c.in_ok-extend_from_slice.ensures.items (rw c.data_offset.ensures.offset refl)
    c.put_zeros.ensures
