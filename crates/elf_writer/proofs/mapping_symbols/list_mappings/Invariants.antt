use Rattle.std.proofs.Common.{◌≡◌}
use Rattle.elf_headers.specs.Below.{answers_below}
use Rattle.elf_writer.specs.TextMappings.{said_before, text_mapping_at}
use Rattle.elf_writer.specs.Slots.{slots_say}
use Rattle.elf_writer.proofs.mapping_symbols.list_mappings.Given as goal

abbrev pub invariant-loop-n : goal.invariant-loop-n
invariant-loop-n l =
    record {
      before : l.before ≡ said_before (slots_say l.slots) l.n;
      mappings : l.mappings.items ≡ answers_below (text_mapping_at (slots_say l.slots)) l.n;
    }
