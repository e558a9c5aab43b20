use Rattle.std.proofs.Common.{◌≡◌, ℕ, ◌<◌, [], List, length, get_or, set, ap, ◌∙◌, sym, arith, Vec, Global, length-set}
use Rattle.std.specs.Vec.{with_items}
use Rattle.std.proofs.lemmas.List.{with_items_is}
use Rattle.sve_vectors.specs.Layout.{items_of}
use Rattle.sve_vectors.proofs.Held.{held, length-items, items-set, cleared_more, long_more}
use Rattle.sve_vectors.proofs.rows.clear_rows.Goals as goal

pub clear-requires : goal.clear-requires
clear-requires c =
    let lt : c.loop-i.i < length c.loop-i.rows = omega arith in
    let e = ap length (held c.loop-i.rows c.loop-i.i c.index-rows-i.result lt c.index-rows-i.is) in
    let same = ap length (c.as_mut_slice.ensures.value ∙ ap (λ (v : Vec ℕ Global). v.items) (sym c.index-rows-i.is)) in
    omega (arith, e, same, c.loop-i.invariant.long c.loop-i.i (omega arith), c.requires c.loop-i.i (omega arith))

pub loop-i-preserved : goal.loop-i-preserved
loop-i-preserved c =
    let rows = c.loop-i.rows in
    let i = c.loop-i.i in
    let v : Vec ℕ Global = get_or rows i c.index-rows-i.result in
    let w : List ℕ = c.clear.new.row in
    let lt : i < length rows = omega arith in
    let inside : i < length (items_of rows) = omega (arith, length-items rows) in
    let same : length w ≡ length v.items = c.clear.auto.row ∙ ap length c.as_mut_slice.ensures.value in
    let is : (with_items v w).items ≡ w = with_items_is v w (same ∙ sym v.ok.0) in
    let at : length w ≡ length (get_or (items_of rows) i []) = same
    ∙ sym (ap length (held rows i c.index-rows-i.result lt c.index-rows-i.is)
    ∙ ap (λ (x : Vec ℕ Global). length x.items) c.index-rows-i.is) in
    let after : items_of (set rows i (with_items v w)) ≡ set (items_of rows) i w = items-set rows i (with_items v w)
    ∙ ap (set (items_of rows) i) is in
    record {
      count = length-set rows i (with_items v w) ∙ c.loop-i.invariant.count;
      zero = λ k l. rw after (cleared_more (items_of rows) i c.args.size w inside c.clear.ensures c.loop-i.invariant.zero k l);
      long = λ k l. rw after (long_more (items_of c.args.rows.now) (items_of rows) i w inside at k (c.loop-i.invariant.long k l));
    }
