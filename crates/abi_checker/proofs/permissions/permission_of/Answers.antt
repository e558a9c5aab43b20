use Rattle.std.proofs.Common.{◌≤◌, ◌∙◌, ℕ, sym, ap, length, arith, get_or}
use Rattle.std.specs.FinMap.{find, get-entries}
use Rattle.std.specs.Ordering.{nat_cmp}
use Rattle.std.proofs.lemmas.Option.{slice_get-get_or}
use Rattle.abi_checker.proofs.Listed.{find_here, find_later, find_past}
use Rattle.abi_checker.proofs.permissions.permission_of.Goals as goal

pub returns-then-list-index : goal.returns-then-list-index
returns-then-list-index c = λ map is.
    let e : ℕ × ℕ = get_or c.args.list.now c.pages.index (0, 0) in
    sym (get-entries map c.args.number ∙ ap (λ es. find nat_cmp c.args.number es) is ∙ c.pages.invariant
    ∙ find_here c.args.number c.args.list.now c.pages.index e.0 e.1
    (slice_get-get_or c.args.list.now c.pages.index (0, 0) c.pages-test.true)
    c.if-list-index.true)

pub pages-preserved : goal.pages-preserved
pages-preserved c =
    let e : ℕ × ℕ = get_or c.args.list.now c.pages.index (0, 0) in
    c.pages.invariant
    ∙ find_later c.args.number c.args.list.now c.pages.index e.0 e.1
    (slice_get-get_or c.args.list.now c.pages.index (0, 0) c.pages-test.true)
    c.if-list-index.false

pub returns : goal.returns
returns c = λ map is.
    let past : length c.args.list.now ≤ c.pages.index = omega arith in
    sym (get-entries map c.args.number ∙ ap (λ es. find nat_cmp c.args.number es) is ∙ c.pages.invariant
    ∙ find_past c.args.number c.args.list.now c.pages.index past)
