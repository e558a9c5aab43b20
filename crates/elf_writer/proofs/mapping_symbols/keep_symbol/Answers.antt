use Rattle.std.proofs.Common.{sym}
use Rattle.elf_writer.specs.Slots.{as_mapping}
use Rattle.elf_writer.proofs.Slots.{slots_skip, slots_keep}
use Rattle.elf_writer.proofs.mapping_symbols.keep_symbol.Goals as goal

pub returns-in_default-clause-keeps : goal.returns-in_default-clause-keeps
returns-in_default-clause-keeps c = slots_skip c.args.slots.now.items c.args.symbol.now (sym c.in_default.ensures)

pub returns-clause-keeps : goal.returns-clause-keeps
returns-clause-keeps c =
    slots_keep c.args.slots.now.items c.keep_mapping.new.slots.items c.args.symbol.now (as_mapping c.in-Some.mapping)
    (sym c.in-Some.ensures)
    c.keep_mapping.ensures.count c.keep_mapping.ensures.keeps
