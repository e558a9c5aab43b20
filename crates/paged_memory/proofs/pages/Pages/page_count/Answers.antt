use Rattle.std.proofs.Common.{arith, ap}
use Rattle.paged_memory.proofs.Order.{len-perm_of}
use Rattle.paged_memory.proofs.Whole.{whole_memory}
use Rattle.paged_memory.proofs.pages.Pages.page_count.Goals as goal

pub returns-clause-value : goal.returns-clause-value
returns-clause-value c = rw (len-perm_of _ _ c.self.invariant.0 (ap (λ t. t.memory) c.self.view_is)) (omega arith)

pub returns-clause-whole : goal.returns-clause-whole
returns-clause-whole c =
    whole_memory c.self.inside.pages.items c.args.self.now.memory c.self.invariant.0 (ap (λ t. t.memory) c.self.view_is)
