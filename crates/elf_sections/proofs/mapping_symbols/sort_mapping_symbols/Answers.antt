use Rattle.std.proofs.Common.{rules}
use Rattle.std.proofs.lemmas.List.Sorted.{answers_always}
use Rattle.elf_sections.specs.declared.mapping_symbols.MappingSymbol.{MappingSymbol}
use Rattle.elf_sections.proofs.Sorting.{in_order, same-sorted}
use Rattle.elf_sections.proofs.mapping_symbols.sort_mapping_symbols.Goals as goal

pub returns-clause-order : goal.returns-clause-order
returns-clause-order c =
    in_order c.sort_by_key.new.self.items (c.in_ok-sort_by_key.ensures.sorted (λ (m : MappingSymbol). (m.section, m.value))
    (answers_always _ _ _ (λ f a r g h. search rules)))

pub returns-clause-same : goal.returns-clause-same
returns-clause-same c =
    same-sorted c.args.symbols.now.items c.sort_by_key.new.self.items
    (c.sort_by_key.ensures.stable (λ (m : MappingSymbol). (m.section, m.value)) (answers_always _ _ _ (λ f a r g h. search rules)))
