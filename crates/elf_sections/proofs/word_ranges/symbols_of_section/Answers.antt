use Rattle.std.proofs.Common.{arith}
use Rattle.std.proofs.lemmas.List.{take_rest}
use Rattle.elf_sections.proofs.WordRanges.{part_same}
use Rattle.elf_sections.proofs.word_ranges.symbols_of_section.Goals as goal

pub returns-clause-same : goal.returns-clause-same
returns-clause-same c =
    λ v. part_same c.args.symbols.now _ c.args.i c.symbols_below_section.result c.symbols_below_section-2.result v
    (take_rest c.args.symbols.now c.symbols_below_section.result)
    (λ k d l. let low = c.symbols_below_section.ensures.below k d l in omega (arith, c.from-number.ensures))
    (λ k d l m. let high = c.symbols_below_section-2.ensures.above k d l m in omega (arith, c.from-number.ensures))
