use Rattle.std.proofs.Common.{◌≡◌, ◌∙◌, ap, arith, length, refl}
use Rattle.std.specs.FinMap.{len}
use Rattle.paged_memory.proofs.Order.{len-perm_of}
use Rattle.paged_memory.proofs.Shown.{entry_shown, bytes_shown}
use Rattle.paged_memory.proofs.pages.Pages.page.Goals as goal

pub returns-then-index-len-clause-there : goal.returns-then-index-len-clause-there
returns-then-index-len-clause-there c =
    let count : len c.args.self.now.memory.perm ≡ length c.self.inside.pages.items =
    len-perm_of _ _ c.self.invariant.0 (ap (λ t. t.memory) c.self.view_is) in
    (λ e. omega arith, λ l. refl)

pub returns-then-index-len-clause-entry : goal.returns-then-index-len-clause-entry
returns-then-index-len-clause-entry c =
    entry_shown c.self.inside.pages.items _ c.args.index c.index-page.result.now c.self.invariant.0 (ap (λ t. t.memory) c.self.view_is)
    (omega arith) c.index-page.ensures

pub returns-then-index-len-clause-bytes : goal.returns-then-index-len-clause-bytes
returns-then-index-len-clause-bytes c =
    bytes_shown c.self.inside.pages.items _ c.args.index c.index-page.result.now _ c.self.invariant.0 (ap (λ t. t.memory) c.self.view_is)
    (omega arith) c.index-page.ensures c.as_slice.ensures

pub returns-else-index-len-clause-there : goal.returns-else-index-len-clause-there
returns-else-index-len-clause-there c =
    let count : len c.args.self.now.memory.perm ≡ length c.self.inside.pages.items =
    len-perm_of _ _ c.self.invariant.0 (ap (λ t. t.memory) c.self.view_is) in
    (λ e. absurd (grind arith), λ l. absurd (omega arith))

pub returns-then-index-len-clause-whole : goal.returns-then-index-len-clause-whole
returns-then-index-len-clause-whole c =
    ap length (c.as_slice.ensures ∙ ap (λ p. p.bytes.items) c.index-page.ensures)
    ∙ c.self.invariant.0.full c.args.index c.index-page.result.now (omega arith)
