use Rattle.std.proofs.Common.{replicate, refl}
use Rattle.elf_writer.specs.File.{mapping_bytes, symbols_bytes}
use Rattle.elf_writer.proofs.Appending.{appended_last}
use Rattle.elf_writer.proofs.file.put_symbols.Goals as goal

pub returns : goal.returns
unfolding symbols_bytes
returns c =
    appended_last c.put_mappings.result c.put_mappings.new.out.items c.put_zeros.new.out.items c.args.out.now.items (replicate 24 0)
    (mapping_bytes c.args.mappings.now) (symbols_bytes c.args.mappings.now)
    c.in_ok-put_zeros.ensures refl c.put_mappings.ensures
