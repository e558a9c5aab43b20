use Rattle.std.proofs.Common.{◌≡◌, drop, length}
use Rattle.sm_types.specs.Objects.{mappings_of}
use Rattle.elf_writer.specs.Slots.{AreSlots}
use Rattle.elf_writer.proofs.mapping_symbols.fill_slots.Given as goal

abbrev pub invariant-loop-symbol : goal.invariant-loop-symbol
invariant-loop-symbol l =
    record {
      count : length l.slots.items ≡ l.count;
      slots : AreSlots l.slots.items (mappings_of (drop l.symbol-index l.symbols)) (mappings_of l.symbols);
    }
