use Rattle.std.proofs.Common.{◌++◌, replicate}
use Rattle.elf_writer.specs.Layout.{all_fields, fields_bytes}
use Rattle.elf_writer.specs.declared.file.TheConstants.{STRINGS, SECTION_NAMES}
use Rattle.elf_writer.specs.File.{front_bytes}
use Rattle.elf_writer.proofs.Appending.{appended, appended_last, front_joined}
use Rattle.elf_writer.proofs.file.put_front.Goals as goal

pub returns : goal.returns
unfolding front_bytes
returns c =
    appended_last c.put_zeros-2.result c.put_zeros-2.new.out.items c.extend_from_slice-2.new.self.items c.args.out.now.items
    (((fields_bytes (all_fields c.args.layout.now) ++ STRINGS.now) ++ replicate 1 0) ++ SECTION_NAMES.now) (replicate 3489 0)
    (front_bytes c.args.layout.now)
    (appended c.extend_from_slice-2.new.self.items c.put_zeros.new.out.items c.args.out.now.items
    ((fields_bytes (all_fields c.args.layout.now) ++ STRINGS.now) ++ replicate 1 0) SECTION_NAMES.now
    (appended c.put_zeros.new.out.items c.extend_from_slice.new.self.items c.args.out.now.items
    (fields_bytes (all_fields c.args.layout.now) ++ STRINGS.now) (replicate 1 0)
    (appended c.extend_from_slice.new.self.items c.put_headers.new.out.items c.args.out.now.items
    (fields_bytes (all_fields c.args.layout.now)) STRINGS.now c.in_ok-put_headers.ensures c.in_ok-extend_from_slice.ensures.items)
    c.in_ok-put_zeros.ensures)
    c.in_ok-extend_from_slice-2.ensures.items)
    (front_joined (fields_bytes (all_fields c.args.layout.now)) STRINGS.now SECTION_NAMES.now (replicate 3489 0)) c.put_zeros-2.ensures
