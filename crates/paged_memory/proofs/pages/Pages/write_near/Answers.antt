use Rattle.std.proofs.Common.{◌≡◌, length, subst, arith}
use Rattle.paged_memory.specs.PageTable.{PageTable, KeepsShared}
use Rattle.paged_memory.specs.Writes.{WritesNear}
use Rattle.paged_memory.specs.Pages.{table_of}
use Rattle.paged_memory.proofs.Order.{same_count}
use Rattle.paged_memory.proofs.pages.Pages.write_near.Goals as goal

pub invariant_of-self : goal.invariant_of-self
invariant_of-self c =
    let count : length c.write_near.new.pages.items ≡ length c.self.inside.pages.items =
    same_count _ _ c.self.invariant.0 c.write_near.ensures.fine c.write_near.ensures.shared.flags in
    (c.write_near.ensures.fine, omega arith)

pub returns-clause-near : goal.returns-clause-near
returns-clause-near c =
    subst (λ (t : PageTable). WritesNear c.args.address c.args.bytes.now t (table_of c.write_near.new.pages.items) c.write_near.result)
    c.self.view_is c.write_near.ensures.near

pub returns-clause-shared : goal.returns-clause-shared
returns-clause-shared c =
    subst (λ (t : PageTable). KeepsShared t (table_of c.write_near.new.pages.items)) c.self.view_is c.write_near.ensures.shared
