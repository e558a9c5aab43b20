use Rattle.std.proofs.Common.{rules}
use Rattle.std.proofs.lemmas.List.Sorted.{IsNonDecreasingBy-from_sort_by_key, All-permutation}
use Rattle.elf_headers.specs.Spans.{IsLow}
use Rattle.elf_headers.proofs.Sound.{spans_low}
use Rattle.elf_headers.proofs.spans.sorted_spans.Goals as goal

pub returns-clause-sorted : goal.returns-clause-sorted
returns-clause-sorted c = IsNonDecreasingBy-from_sort_by_key (λ s. s.address) _ c.in_ok-sort_by_key.ensures.sorted (λ a r q k. search rules)

pub returns-clause-low : goal.returns-clause-low
returns-clause-low c =
    All-permutation IsLow _ _ c.sort_by_key.ensures.permutation (rw c.in_ok-spans.ensures (spans_low _ c.requires.accepted))
