use Rattle.std.proofs.Common.{◌≡◌, ◌<◌, ◌/◌, length, get_or, ◌∙◌, ◌++◌, [], ◌∷◌, map, take, ap, ap₂, sym, subst, arith, true}
use Rattle.paged_memory.specs.Pages.{IsFine}
use Rattle.paged_memory.specs.PageList.{page_made}
use Rattle.paged_memory.proofs.Listed.{made_of-more, fine_more}
use Rattle.paged_memory.proofs.page_list.pages_of_list.Goals as goal

pub loop-page-preserved : goal.loop-page-preserved
loop-page-preserved c =
    let there : c.loop-page.page-index < length c.args.list.now.items =
    rw c.deref-page-items.ensures.value at c.loop-page-test.true in
    let is : c.page-item.result ≡ get_or c.args.list.now.items c.loop-page.page-index c.page-item.result =
    c.page-item.is ∙ ap (λ xs. get_or xs c.loop-page.page-index c.page-item.result) c.deref-page-items.ensures.value in
    let page : record {
      number = c.page-item.result.address / 4096;
      flags = c.page-item.result.flags;
      bytes = c.own_of.result;
    } ≡ page_made c.page-item.result =
    ap (λ b. record { number = c.page-item.result.address / 4096; flags = c.page-item.result.flags; bytes = b })
    (c.own_of.ensures ∙ ap (λ xs. record { items = xs; own = true }) (c.in_ok-bytes.ensures.items ∙ c.as_slice.ensures.value)) in
    let made : c.push.new.self.items
    ≡ map page_made (take c.loop-page.page-index c.args.list.now.items) ++ page_made c.page-item.result ∷ [] =
    c.in_ok-push.ensures.items ∙ ap₂ (λ ps p. ps ++ p ∷ []) c.loop-page.invariant.made page in
    record {
      fine =
          subst IsFine (sym made) (fine_more c.args.list.now.items c.loop-page.page-index c.page-item.result c.requires there
          is (omega arith) (subst IsFine c.loop-page.invariant.made c.loop-page.invariant.fine));
      made =
          made ∙ sym (made_of-more c.args.list.now.items c.loop-page.page-index c.page-item.result there is);
    }
