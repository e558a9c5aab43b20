use Rattle.std.proofs.Common.{◌+◌, arith}
use Rattle.elf_sections.specs.MappingSymbols.{HasEnd}
use Rattle.elf_sections.proofs.Names.{name_ends}
use Rattle.elf_sections.proofs.mapping_symbols.read_mapping_symbol.Goals as goal
use Rattle.elf_sections.proofs.mapping_symbols.read_mapping_symbol.Goals.{After-u32_at}

ends : (c : After-u32_at) → HasEnd c.args.file.now (c.args.strings.now.offset + c.u32_at.result)
ends c = rw c.u32_at.ensures (name_ends c.args.file.now c.args.strings.now _ c.requires.strings c.requires.ends)

pub overflow_add-name : goal.overflow_add-name
overflow_add-name c = let e = ends (goal.at.overflow_add-name c).After-u32_at in omega (arith, e.1, e.2)

pub name_says-requires : goal.name_says-requires
name_says-requires c = record { ends = ends (goal.at.name_says-requires c).After-u32_at }
