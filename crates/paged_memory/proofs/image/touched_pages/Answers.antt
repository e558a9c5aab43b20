use Rattle.std.proofs.Common.{◌≡◌, ◌+◌, ◌-◌, ◌<◌, ◌≤◌, ◌^◌, drop, map, ap, sym, ◌∙◌, arith}
use Rattle.paged_memory.specs.Image.{extent_of, image_flags}
use Rattle.paged_memory.proofs.Touch.{no_pages_own, no_pages_fine, no_pages_zero, no_pages_flags}
use Rattle.paged_memory.proofs.Parts.{placed_at, flags_of_none, flags_of_more}
use Rattle.paged_memory.proofs.image.touched_pages.Goals as goal

pub loop-left-init : goal.loop-left-init
loop-left-init c = record {
  bound = omega arith;
  fine = no_pages_fine c.new-pages.result.items c.new-pages.ensures.items;
  zero = no_pages_zero c.new-pages.result.items c.new-pages.ensures.items;
  own = no_pages_own c.new-pages.result.items c.new-pages.ensures.items;
  flags = λ n. no_pages_flags c.new-pages.result.items n c.new-pages.ensures.items ∙ flags_of_none c.args.parts.now n;
}

pub touch_part-requires-clause-low : goal.touch_part-requires-clause-low
touch_part-requires-clause-low c =
    placed_at (λ e. 0 < e.size → e.address + e.size ≤ 2 ^ 62) c.args.parts.now (c.loop-left.left - 1) _ c.requires.low (omega arith)

pub touch_part-requires-clause-sum : goal.touch_part-requires-clause-sum
touch_part-requires-clause-sum c = placed_at (λ e. e.flags < 8) c.args.parts.now (c.loop-left.left - 1) _ c.requires.sums (omega arith)

pub loop-left-preserved : goal.loop-left-preserved
loop-left-preserved c =
    let next : c.loop-left.left - 1 + 1 ≡ c.loop-left.left = omega arith in
    record {
      bound = omega arith;
      fine = c.in_ok-touch_part.ensures.fine;
      zero = c.in_ok-touch_part.ensures.zero;
      own = c.in_ok-touch_part.ensures.own;
      flags =
          λ n. flags_of_more c.args.parts.now (c.loop-left.left - 1) _ n _ _ (omega arith)
          (c.loop-left.invariant.flags n ∙ ap (λ k. image_flags (drop k (map extent_of c.args.parts.now)) n) (sym next))
          (c.in_ok-touch_part.ensures.flags n);
    }
