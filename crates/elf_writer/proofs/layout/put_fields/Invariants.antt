use Rattle.std.proofs.Common.{◌≡◌, ◌++◌, drop}
use Rattle.elf_writer.specs.Layout.{fields_bytes}
use Rattle.elf_writer.proofs.layout.put_fields.Given as goal

abbrev pub invariant-loop-field : goal.invariant-loop-field
invariant-loop-field l = l.out.items ++ fields_bytes (drop l.field-index l.fields) ≡ l.initial.out.items ++ fields_bytes l.fields
