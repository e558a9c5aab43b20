use Rattle.elf_sections.specs.MappingSymbols.{mapping_symbols_below}
use Rattle.elf_sections.specs.SymbolOrder.{SayTheSame}
use Rattle.elf_sections.proofs.mapping_symbols.gather_mapping_symbols.Given as goal

abbrev pub invariant-loop-i : goal.invariant-loop-i
invariant-loop-i l = SayTheSame l.symbols.items (mapping_symbols_below l.file l.i)
