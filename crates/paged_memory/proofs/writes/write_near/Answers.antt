use Rattle.std.proofs.Common.{◌≡◌, ◌/◌, ◌<◌, length, ap, sym, ◌∙◌, arith, None, get_or}
use Rattle.std.specs.Prelude.{slice_get}
use Rattle.paged_memory.specs.Memory.{first_without}
use Rattle.paged_memory.specs.PageTable.{IsOwned}
use Rattle.paged_memory.specs.Pages.{page_at, memory_of, table_of}
use Rattle.paged_memory.proofs.Order.{found_at}
use Rattle.paged_memory.proofs.Held.{owned_at}
use Rattle.paged_memory.proofs.Runs.{run_permitted}
use Rattle.paged_memory.proofs.Near.{keeps_shared}
use Rattle.paged_memory.proofs.writes.write_near.Goals as goal

pub set_at-requires-clause-page : goal.set_at-requires-clause-page
set_at-requires-clause-page c =
    let there : c.place-i.result < length c.args.pages.now.items = omega arith in
    found_at c.args.pages.now.items c.place-i.result (c.args.address / 4096) c.index-page.result.now c.requires.fine there
    (rw (← c.index-page.ensures) c.if-page-number.false)

pub set_at-requires-clause-owned : goal.set_at-requires-clause-owned
set_at-requires-clause-owned c =
    let there : c.place-i.result < length c.args.pages.now.items = omega arith in
    let page : page_at c.args.pages.now.items (c.args.address / 4096) ≡ slice_get c.args.pages.now.items c.place-i.result =
    found_at c.args.pages.now.items c.place-i.result (c.args.address / 4096) c.index-page.result.now c.requires.fine there
    (rw (← c.index-page.ensures) c.if-page-number.false) in
    owned_at c.args.pages.now.items c.place-i.result (c.args.address / 4096) c.index-page.result.now c.requires.fine there
    page ∙ ap (λ p. p.bytes.own) (sym c.index-page.ensures) ∙ sym c.is_own.ensures ∙ c.if-not-is_own.false

pub returns-clause-near : goal.returns-clause-near
returns-clause-near c =
    let there : c.place-i.result < length c.args.pages.now.items = omega arith in
    let page : page_at c.args.pages.now.items (c.args.address / 4096) ≡ slice_get c.args.pages.now.items c.place-i.result =
    found_at c.args.pages.now.items c.place-i.result (c.args.address / 4096) c.index-page.result.now c.requires.fine there
    (rw (← c.index-page.ensures) c.if-page-number.false) in
    let none : first_without 2 (memory_of c.args.pages.now.items) c.args.address (length c.args.bytes.now) ≡ None =
    run_permitted c.args.pages.now.items 2 c.args.address (length c.args.bytes.now) c.place-i.result c.index-page.result.now
    c.requires.fine page there c.index-page.ensures c.if-page-ne2.false (omega arith) c.if-address-bytes-gt4096.false in
    ((λ j. record { mem = c.set_at.ensures.bytes j; perm = c.set_at.ensures.flags j }), none)

pub returns-clause-shared : goal.returns-clause-shared
returns-clause-shared c =
    let there : c.place-i.result < length c.args.pages.now.items = omega arith in
    let page : page_at c.args.pages.now.items (c.args.address / 4096) ≡ slice_get c.args.pages.now.items c.place-i.result =
    found_at c.args.pages.now.items c.place-i.result (c.args.address / 4096) c.index-page.result.now c.requires.fine there
    (rw (← c.index-page.ensures) c.if-page-number.false) in
    let owned : IsOwned (table_of c.args.pages.now.items) (c.args.address / 4096) =
    owned_at c.args.pages.now.items c.place-i.result (c.args.address / 4096) c.index-page.result.now c.requires.fine there
    page ∙ ap (λ p. p.bytes.own) (sym c.index-page.ensures) ∙ sym c.is_own.ensures ∙ c.if-not-is_own.false in
    keeps_shared c.args.pages.now.items c.set_at.new.pages.items c.args.address c.args.bytes.now (omega arith)
    c.if-address-bytes-gt4096.false owned c.set_at.ensures.bytes c.set_at.ensures.flags c.set_at.ensures.owned
