use Rattle.std.proofs.Common.{◌≡◌, ◌+◌, ◌++◌, ◌∷◌, [], All, length, map, refl, ap, sym, ◌∙◌, subst, arith}
use Rattle.std.specs.Prelude.{nat_le, ◌≤◌, true}
use Rattle.std.proofs.lemmas.Bool.Decides.{nat_tests}
use Rattle.std.specs.List.{flat_map}
use Rattle.std.proofs.lemmas.List.{length_push, length-map}
use Rattle.std.proofs.lemmas.List.Elements.{All-nil, All-append}
use Rattle.field_table.specs.Rows.{repeated}
use Rattle.field_table.specs.Table.{End}
use Rattle.field_table.proofs.Reading.{item_reads, items_begin, items_read}
use Rattle.ckpt_fields.specs.Rows.{pages_of, page_row}
use Rattle.ckpt_fields.specs.Values.{words, page_value, page_values, page_said, IsNarrowPage}
use Rattle.ckpt_fields.proofs.Chains.{reads_as}
use Rattle.ckpt_fields.proofs.Faults.{told_on, fault_on}
use Rattle.ckpt_fields.proofs.Listed.{all_one, item_fault, values_more, values_none}
use Rattle.ckpt_fields.proofs.lists.read_pages.Goals as goal

pub returns-in_err-pass_word-clause-read : goal.returns-in_err-pass_word-clause-read
unfolding pages_of
returns-in_err-pass_word-clause-read c =
    told_on _ _ _ _ _ _ _ c.from_residual.ensures.1
    (c.in_err-pass_word.ensures.read (λ n. nat_le n 4096) (λ n. repeated page_row n 0 End) refl)

pub pages-init : goal.pages-init
unfolding pages_of
pages-init c =
    let none : c.new-pages.result.items ≡ [] = c.new-pages.ensures.items in
    record {
      count = ap length none;
      narrow = subst (All IsNarrowPage) (sym none) (All-nil IsNarrowPage);
      read =
          reads_as (words (c.word-count.result ∷ [])) _
          (values_none page_value page_said (words (c.word-count.result ∷ [])) c.new-pages.result.items none)
          (items_begin page_row c.word-count.result 0 End pages_of (words (c.word-count.result ∷ [])) _ _
          (c.in_ok-pass_word.ensures.read (λ n. nat_le n 4096) (λ n. repeated page_row n 0 End) refl));
    }

pub returns-in_err-page-clause-read : goal.returns-in_err-page-clause-read
returns-in_err-page-clause-read c =
    fault_on _ _ _ _ _ _ _ c.from_residual-in_err-page.ensures.1
    (item_fault page_row c.word-count.result c.pages._k c.pages.least End pages_of _ _ _ c.in_err-page.field-0.0
    c.pages-test.true (c.pages.invariant.read) (λ follows. c.in_err-page.ensures.read follows))

pub pages-preserved : goal.pages-preserved
pages-preserved c =
    let more : c.push.new.self.items ≡ c.pages.pages.items ++ c.in_ok-page.page ∷ [] = c.in_ok-push.ensures.items in
    record {
      count = ap length more ∙ length_push c.pages.pages.items c.in_ok-page.page ∙ ap (λ n. n + 1) c.pages.invariant.count;
      narrow = subst (All IsNarrowPage) (sym more)
          (All-append IsNarrowPage c.pages.pages.items (c.in_ok-page.page ∷ []) c.pages.invariant.narrow
          (all_one IsNarrowPage c.in_ok-page.page c.in_ok-page.ensures.narrow));
      read =
          reads_as _ _
          (values_more page_value page_said (words (c.word-count.result ∷ [])) c.pages.pages.items c.push.new.self.items
          c.in_ok-page.page more)
          (item_reads page_row c.word-count.result c.pages._k c.pages.least End (c.in_ok-page.page.address + 1) pages_of
          _ (page_value (page_said c.in_ok-page.page)) _ _ _ c.pages-test.true (c.pages.invariant.read)
          (λ follows. c.in_ok-page.ensures.read follows));
    }

pub returns-clause-read : goal.returns-clause-read
unfolding page_values
returns-clause-read c =
    let items = c.pages.pages.items in
    let count : c.word-count.result ≡ length (map page_said items) =
    omega (arith, length-map items page_said, c.pages.invariant.count, c.pages-test.false, c.pages.auto._k-end) in
    reads_as _ _ (ap (λ n. words (n ∷ []) ++ flat_map page_value (map page_said items)) count)
    (items_read page_row c.word-count.result c.pages._k c.pages.least End pages_of _ _ _ c.pages-test.false
    (c.pages.invariant.read))

pub returns-clause-few : goal.returns-clause-few
returns-clause-few c =
    let right : nat_le c.word-count.result 4096 ≡ true = c.in_ok-pass_word.ensures.right in
    let few : c.word-count.result ≤ 4096 = grind (arith, nat_tests) in
    omega (arith, few, c.pages.invariant.count, c.pages.auto._k-end)
