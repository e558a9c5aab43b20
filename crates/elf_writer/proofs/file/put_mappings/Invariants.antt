use Rattle.std.proofs.Common.{◌≡◌, ◌++◌, drop}
use Rattle.elf_writer.specs.File.{mapping_bytes}
use Rattle.elf_writer.proofs.file.put_mappings.Given as goal

abbrev pub invariant-loop-mapping : goal.invariant-loop-mapping
invariant-loop-mapping l = l.out.items ++ mapping_bytes (drop l.mapping-index l.mappings) ≡ l.initial.out.items ++ mapping_bytes l.mappings
