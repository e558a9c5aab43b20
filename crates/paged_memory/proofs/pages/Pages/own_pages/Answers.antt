use Rattle.std.proofs.Common.{◌≡◌, ◌≤◌, ◌∙◌, ap, length, sym, arith}
use Rattle.std.specs.Prelude.{count_by}
use Rattle.std.specs.FinMap.{len}
use Rattle.std.proofs.lemmas.List.Sums.{count_by-le-length}
use Rattle.paged_memory.specs.PageTable.{owned_count}
use Rattle.paged_memory.proofs.Order.{len-perm_of}
use Rattle.paged_memory.proofs.Held.{len-own_numbers}
use Rattle.paged_memory.proofs.pages.Pages.own_pages.Goals as goal

pub returns-clause-value : goal.returns-clause-value
returns-clause-value c =
    c.own_count.ensures ∙ ap (count_by (λ p. p.bytes.own)) c.as_slice.ensures.value
    ∙ sym (len-own_numbers c.self.inside.pages.items c.self.invariant.0.sorted) ∙ ap owned_count c.self.view_is

pub returns-clause-few : goal.returns-clause-few
returns-clause-few c =
    let count : len c.args.self.now.memory.perm ≡ length c.self.inside.pages.items =
    len-perm_of _ _ c.self.invariant.0 (ap (λ t. t.memory) c.self.view_is) in
    let some : c.own_count.result ≡ count_by (λ p. p.bytes.own) c.self.inside.pages.items =
    c.own_count.ensures ∙ ap (count_by (λ p. p.bytes.own)) c.as_slice.ensures.value in
    let few : count_by (λ p. p.bytes.own) c.self.inside.pages.items ≤ length c.self.inside.pages.items =
    count_by-le-length (λ p. p.bytes.own) c.self.inside.pages.items in
    omega (arith, count, some, few)
