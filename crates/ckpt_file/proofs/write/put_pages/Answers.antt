use Rattle.std.proofs.Common.{◌≡◌, ◌<◌, ◌≤◌, ◌++◌, ◌∷◌, [], length, take, ◌∙◌, arith}
use Rattle.std.specs.List.{flat_map}
use Rattle.std.specs.FinMap.{len}
use Rattle.std.proofs.lemmas.List.{take_all}
use Rattle.ckpt_fields.specs.Values.{words, page_value, page_values}
use Rattle.ckpt_file.specs.Checkpoint.{pages_in}
use Rattle.ckpt_file.proofs.Puts.{put_more, put_as, put_page_next, pages_count}
use Rattle.ckpt_file.proofs.write.put_pages.Goals as goal

pub loop-index-preserved : goal.loop-index-preserved
loop-index-preserved c =
    let m = c.args.pages.now.memory in
    let inside : c.loop-index.index < len m.perm = omega (arith, c.loop-index-test.true, c.page_count-count.ensures.value) in
    put_page_next m c.loop-index.index c.in-Some.page.address c.in-Some.page.flags c.in-Some.page.bytes.now _ _ _ inside
    c.in-Some.ensures.entry c.in-Some.ensures.aligned c.in-Some.ensures.bytes c.loop-index.invariant c.in_ok-put_page-in-Some.ensures

pub returns : goal.returns
unfolding page_values
returns c =
    let m = c.args.pages.now.memory in
    let count : c.page_count-count.result ≡ length (pages_in m) = c.page_count-count.ensures.value ∙ pages_count m in
    let past : length (pages_in m) ≤ c.loop-index.index = omega (arith, c.loop-index-test.false, count) in
    let all : take c.loop-index.index (pages_in m) ≡ pages_in m = take_all c.loop-index.index (pages_in m) past in
    let before = words (c.page_count-count.result ∷ []) in
    let each = flat_map page_value (take c.loop-index.index (pages_in m)) in
    let same : before ++ each ≡ page_values (pages_in m) = λ i. words (count i ∷ []) ++ flat_map page_value (all i) in
    put_as (before ++ each) (page_values (pages_in m)) _ _ same (put_more before each _ _ _ c.in_ok-put_word.ensures c.loop-index.invariant)
