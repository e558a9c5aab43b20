use Rattle.std.proofs.Common.{◌≤◌, ◌/◌, ◌∙◌, length, arith}
use Rattle.std.specs.FinMap.{entries, get-entries, len-entries}
use Rattle.abi_checker.proofs.Listed.{find_here, find_later, find_past, byte_there, byte_nowhere}
use Rattle.abi_checker.proofs.bytes.byte_in.Goals as goal

pub pages-init : goal.pages-init
pages-init c = get-entries c.args.pages.now.memory.perm (c.args.address / 4096)

pub returns-then-page-address : goal.returns-then-page-address
returns-then-page-address c =
    let m = c.args.pages.now.memory in
    let e = c.in-Some.ensures in
    byte_there m c.args.address c.in-Some.page.address c.in-Some.page.flags c.in-Some.page.bytes.now c.page_count-count.ensures.whole
    (c.pages.invariant
    ∙ find_here (c.args.address / 4096) (entries m.perm) c.pages.index (c.in-Some.page.address / 4096) c.in-Some.page.flags e.entry
    c.if-page-address.true)
    e.aligned c.if-page-address.true e.bytes

pub pages-preserved : goal.pages-preserved
pages-preserved c =
    c.pages.invariant
    ∙ find_later (c.args.address / 4096) (entries c.args.pages.now.memory.perm) c.pages.index (c.in-Some.page.address / 4096)
    c.in-Some.page.flags c.in-Some.ensures.entry c.if-page-address.false

pub returns : goal.returns
returns c =
    let m = c.args.pages.now.memory in
    let value = c.page_count-count.ensures.value in
    let past : length (entries m.perm) ≤ c.pages.index = omega (arith, len-entries m.perm, value) in
    byte_nowhere m c.args.address (c.pages.invariant ∙ find_past (c.args.address / 4096) (entries m.perm) c.pages.index past)
