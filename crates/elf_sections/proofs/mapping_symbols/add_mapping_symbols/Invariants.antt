use Rattle.std.proofs.Common.{◌≡◌, ◌++◌}
use Rattle.elf_headers.specs.Below.{answers_below}
use Rattle.elf_sections.specs.Sections.{strings_of, symbol_offset}
use Rattle.elf_sections.specs.MappingSymbols.{mapping_symbol_at}
use Rattle.elf_sections.proofs.mapping_symbols.add_mapping_symbols.Given as goal

abbrev pub invariant-loop-k : goal.invariant-loop-k
invariant-loop-k l =
    l.symbols.items ≡ l.initial.symbols.items ++ answers_below (λ k. mapping_symbol_at l.file (strings_of l.file l.s) (symbol_offset l.s k))
    l.k
