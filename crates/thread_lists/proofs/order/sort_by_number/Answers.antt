use Rattle.std.proofs.Common.{rules}
use Rattle.std.proofs.lemmas.List.Sorted.{IsNonDecreasingBy-from_sort_by_key}
use Rattle.kernel_contexts.specs.Context.{thread_of}
use Rattle.thread_lists.proofs.Rising.{sorted_numbers}
use Rattle.thread_lists.proofs.order.sort_by_number.Goals as goal

pub returns-clause-order : goal.returns-clause-order
returns-clause-order g c =
    let up = IsNonDecreasingBy-from_sort_by_key (λ w. thread_of w.context) _ c.sort_unstable_by_key.ensures.sorted
    (λ a r q k. search rules) in
    sorted_numbers (λ w. thread_of w.context) _ _ c.sort_unstable_by_key.ensures.permutation up
