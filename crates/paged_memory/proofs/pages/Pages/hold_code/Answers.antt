use Rattle.std.proofs.Common.{◌≡◌, ◌/◌, ◌<◌, List, ℕ, length, take, drop, ap, sym, subst, ◌∙◌, arith, refl, Some, false}
use Rattle.std.specs.Prelude.{slice_get}
use Rattle.std.specs.FinSet.{contains}
use Rattle.std.specs.Arc.{arc_value}
use Rattle.std.proofs.lemmas.List.{take_all}
use Rattle.paged_memory.specs.Memory.{bytes_with}
use Rattle.paged_memory.specs.Pages.{page_at, own_numbers, memory_of}
use Rattle.paged_memory.specs.PageTable.{PageTable}
use Rattle.paged_memory.proofs.Held.{owned_at}
use Rattle.paged_memory.proofs.Runs.{page_read, run_read}
use Rattle.paged_memory.proofs.pages.Pages.hold_code.Goals as goal

pub returns-in-Some : goal.returns-in-Some
returns-in-Some c =
    let ps = c.self.inside.pages.items in
    let fine = c.self.invariant.0 in
    let base = c.args.base in
    let i = c.in_ok-i.i in
    let page = c.index-pages-i.result in
    let there : i < length ps = rw c.as_slice-pages.ensures.value at c.in_ok-i.ensures.0 in
    let found : page_at ps (base / 4096) ≡ slice_get ps i = rw c.as_slice-pages.ensures.value at c.in_ok-i.ensures.1 in
    let is = rw c.as_slice-pages.ensures.value at c.index-pages-i.is in
    let items : page.bytes.items ≡ (arc_value c.in-Some.bytes).items = ap (λ b. b.items) c.in-Some.ensures in
    let full : length page.bytes.items ≡ 4096 = rw is (fine.full i page there) in
    let read : bytes_with 1 (memory_of ps) base 4096 ≡ Some page.bytes.items =
    run_read ps 1 base 4096 page fine (page_read ps (base / 4096) i page found there is) c.if-page-ne1.false full (omega arith)
    (omega (arith, c.requires))
    ∙ ap (λ k. Some (take 4096 (drop k page.bytes.items))) c.requires ∙ ap Some (take_all 4096 page.bytes.items (omega (arith, full))) in
    record {
      full = ap length (sym items) ∙ full;
      bytes = ap (λ (t : PageTable). bytes_with 1 t.memory base 4096) (sym c.self.view_is) ∙ read ∙ ap Some items;
      shared = ap (λ (t : PageTable). contains t.owned (base / 4096)) (sym c.self.view_is) ∙ owned_at ps i (base / 4096) page fine there found
          ∙ ap (λ p. p.bytes.own) (sym is) ∙ ap (λ b. b.own) c.in-Some.ensures;
    }
