use Rattle.std.proofs.Common.{ap, sym, ◌∙◌, arith}
use Rattle.elf_sections.specs.SymbolOrder.{last_symbol}
use Rattle.elf_sections.specs.Sections.{section_fault, section_count}
use Rattle.elf_headers.proofs.Below.{first_below-each_none}
use Rattle.elf_sections.proofs.Saying.{mapping_symbols_below-zero}
use Rattle.elf_sections.proofs.mapping_symbols.gather_mapping_symbols.Goals as goal

pub loop-i-init : goal.loop-i-init
loop-i-init c = λ s v. ap (last_symbol s v) (c.new-symbols.ensures.items ∙ sym (mapping_symbols_below-zero c.args.file.now))

pub add_section-requires-clause-checked : goal.add_section-requires-clause-checked
add_section-requires-clause-checked c =
    first_below-each_none (section_fault c.args.file.now) (section_count c.args.file.now) c.requires.checked c.loop-i.i
    (omega (arith, c.count_sections-i-end.ensures))
