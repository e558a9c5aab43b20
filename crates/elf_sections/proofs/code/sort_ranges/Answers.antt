use Rattle.std.proofs.Common.{◌<◌, ◌≤◌, ◌^◌, rules, sym, ◌∙◌}
use Rattle.std.proofs.lemmas.List.Sorted.{IsNonDecreasingBy-from_sort_by_key, All-permutation}
use Rattle.elf_sections.specs.declared.word_ranges.WordRange.{WordRange}
use Rattle.elf_sections.proofs.Listing.{in_ranges-permutation}
use Rattle.elf_sections.proofs.code.sort_ranges.Goals as goal

pub returns-clause-words : goal.returns-clause-words
returns-clause-words c =
    λ n. sym (in_ranges-permutation c.in_ok-ranges.ranges.items c.sort_by_key.new.self.items n c.sort_by_key.ensures.permutation)
    ∙ c.in_ok-ranges.ensures.words n

pub returns-clause-low : goal.returns-clause-low
returns-clause-low c =
    All-permutation (λ (s : WordRange). (s.start < s.end) × (s.end ≤ 2 ^ 45)) c.in_ok-ranges.ranges.items c.sort_by_key.new.self.items
    c.sort_by_key.ensures.permutation c.in_ok-ranges.ensures.low

pub returns-clause-order : goal.returns-clause-order
returns-clause-order c = IsNonDecreasingBy-from_sort_by_key (λ s. s.start) _ c.in_ok-sort_by_key.ensures.sorted (λ a r q k. search rules)
