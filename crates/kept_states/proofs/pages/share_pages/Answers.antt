use Rattle.std.proofs.Common.{◌≡◌, ◌≤◌, ◌/◌, ◌%◌, length, Some, slice_get, ap, sym, ◌∙◌, arith}
use Rattle.std.specs.FinMap.{entries, len}
use Rattle.paged_memory.specs.Memory.{bytes_from}
use Rattle.kept_states.specs.Pages.{bytes_of, entry_of, IsPage}
use Rattle.kept_states.proofs.PageLists.{none_first, first_more, flags_small, page_of_address, all_pages, all_shared}
use Rattle.kept_states.proofs.pages.share_pages.Goals as goal

pub loop-place-init : goal.loop-place-init
loop-place-init c = none_first c.args.pages.now.memory c.new-list.result.items c.new-list.ensures.items

pub loop-place-preserved : goal.loop-place-preserved
loop-place-preserved c =
    let m = c.args.pages.now.memory in
    let shown = c.in-Some.ensures in
    let it = c.in_ok-share_page-in-Some.field-0 in
    let e = c.in_ok-share_page-in-Some.ensures in
    let address = e.address in
    let flags = e.flags in
    let at : slice_get (entries m.perm) c.loop-place.place ≡ Some (entry_of it) =
    shown.entry ∙ (λ i. Some (sym address i / 4096, sym flags i)) in
    let good : IsPage it = record {
      aligned = ap (λ a. a % 4096) address ∙ shown.aligned;
      private = λ same. c.if-page-eq-SHARED_PAGE.false (sym address ∙ same);
      flags = flags_small m c.loop-place.place (entry_of it) c.page_count-place-end.ensures.whole at;
      full = ap length e.bytes ∙ shown.whole;
    } in
    let bytes : bytes_from m.mem it.address 4096 ≡ bytes_of it =
    ap (λ a. bytes_from m.mem a 4096) address ∙ sym shown.bytes ∙ sym e.bytes in
    first_more m c.loop-place.place c.loop-place.list.items c.push.new.self.items it c.loop-place.invariant at good bytes
    c.in_ok-push-in-Some.ensures.items

pub returns-clause-pages : goal.returns-clause-pages
returns-clause-pages c =
    let m = c.args.pages.now.memory in
    let all : len m.perm ≤ c.loop-place.place = omega (arith, c.page_count-place-end.ensures.value) in
    let few : len m.perm ≤ 4096 = omega (arith, c.page_count-place-end.ensures.value, c.page_count-place-end.ensures.few) in
    all_pages m c.loop-place.place c.loop-place.list.items c.loop-place.invariant all few

pub returns-clause-memory : goal.returns-clause-memory
returns-clause-memory c =
    let m = c.args.pages.now.memory in
    let all : len m.perm ≤ c.loop-place.place = omega (arith, c.page_count-place-end.ensures.value) in
    let few : len m.perm ≤ 4096 = omega (arith, c.page_count-place-end.ensures.value, c.page_count-place-end.ensures.few) in
    all_shared m c.loop-place.place c.loop-place.list.items c.loop-place.invariant all few c.page_count-place-end.ensures.whole

pub returns-then-page-eq-SHARED_PAGE-clause-private : goal.returns-then-page-eq-SHARED_PAGE-clause-private
returns-then-page-eq-SHARED_PAGE-clause-private c =
    page_of_address c.args.pages.now.memory c.loop-place.place c.in-Some.page.address c.in-Some.page.flags 0x7F0000000
    c.in-Some.ensures.entry
    (ap (λ a. a / 4096) c.if-page-eq-SHARED_PAGE.true)
