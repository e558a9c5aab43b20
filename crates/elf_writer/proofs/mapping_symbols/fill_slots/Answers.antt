use Rattle.std.proofs.Common.{◌∙◌, arith}
use Rattle.sm_types.specs.Objects.{mappings_of}
use Rattle.elf_writer.proofs.Slots.{slots_more, slots_all}
use Rattle.elf_writer.proofs.mapping_symbols.fill_slots.Goals as goal

pub loop-symbol-preserved : goal.loop-symbol-preserved
loop-symbol-preserved c = record {
  count = c.keep_symbol.ensures.count ∙ c.loop-symbol.invariant.count;
  slots =
      slots_more c.loop-symbol.slots.items c.keep_symbol.new.slots.items c.args.symbols.now c.loop-symbol.symbol-index c.symbol-item.result
      (mappings_of c.args.symbols.now) c.loop-symbol-test.true c.symbol-item.is c.keep_symbol.ensures.keeps c.loop-symbol.invariant.slots;
}

pub returns-clause-slots : goal.returns-clause-slots
returns-clause-slots c =
    slots_all c.loop-symbol.slots.items c.args.symbols.now c.loop-symbol.symbol-index (mappings_of c.args.symbols.now) (omega arith)
    c.loop-symbol.invariant.slots
