use Rattle.std.proofs.Common.{◌≡◌, true, false, ltb, rules, arith}
use Rattle.std.specs.List.Sorted.{IsPartitionPoint}
use Rattle.std.proofs.lemmas.Bool.{ltb-true, ltb-false}
use Rattle.std.proofs.lemmas.List.Sorted.{IsPartitionedBy-ltb, IsPartitionPoint-from_clause}
use Rattle.elf_sections.specs.declared.mapping_symbols.MappingSymbol.{MappingSymbol}
use Rattle.elf_sections.proofs.word_ranges.symbols_below_section.Goals as goal
use Rattle.elf_sections.proofs.word_ranges.symbols_below_section.Goals.{After-partition_point}

-- the place of the search
point : (c : After-partition_point) → IsPartitionPoint (λ (m : MappingSymbol). ltb m.section c.args.i ≡ true)
    (λ (m : MappingSymbol). ltb m.section c.args.i ≡ false) c.args.symbols.now c.partition_point.result
point c =
    IsPartitionPoint-from_clause (λ (m : MappingSymbol). ltb m.section c.args.i) c.args.symbols.now c.partition_point.result
    c.partition_point.ensures.partitioned
    (IsPartitionedBy-ltb (λ (m : MappingSymbol). m.section) c.args.symbols.now c.args.i c.requires) (λ a r q k. search rules)

pub returns-clause-below : goal.returns-clause-below
returns-clause-below c = λ k d l. ltb-true _ _ ((point (goal.at.returns-clause-below c).After-partition_point).0 k d (omega arith) l)

pub returns-clause-above : goal.returns-clause-above
returns-clause-above c = λ k d l m. ltb-false _ _ ((point (goal.at.returns-clause-above c).After-partition_point).1 k d l m)
