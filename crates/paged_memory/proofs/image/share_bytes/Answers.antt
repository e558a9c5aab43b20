use Rattle.std.proofs.Common.{◌<◌, ◌∙◌, length, ap, arith}
use Rattle.std.proofs.lemmas.List.{length-set}
use Rattle.paged_memory.proofs.Set.{fine_set}
use Rattle.paged_memory.proofs.Held.{memory_of-kept}
use Rattle.paged_memory.proofs.image.share_bytes.Goals as goal

pub loop-i-preserved : goal.loop-i-preserved
loop-i-preserved c =
    let place : c.loop-i.i < length c.loop-i.pages.items = omega (arith, c.loop-i.invariant.count) in
    record {
      fine =
          fine_set c.loop-i.pages.items c.loop-i.i
          (record {
            number = c.index_mut-page.result.now.number;
            flags = c.index_mut-page.result.now.flags;
            bytes = c.make_shared.new.self;
          }) c.index_mut-page.result.now c.loop-i.invariant.fine place
          (ap (λ b. length b.items) c.in_ok-make_shared.ensures ∙ ap (λ p. length p.bytes.items) c.index_mut-page.ensures.value
          ∙ c.loop-i.invariant.fine.full c.loop-i.i c.index_mut-page.result.now place)
          (rw c.index_mut-page.ensures.value (c.loop-i.invariant.fine.flags c.loop-i.i c.index_mut-page.result.now place))
          (ap (λ p. p.number) c.index_mut-page.ensures.value);
      memory =
          memory_of-kept c.loop-i.pages.items c.loop-i.i _ c.index_mut-page.result.now place
          (ap (λ p. p.number) c.index_mut-page.ensures.value) (ap (λ p. p.flags) c.index_mut-page.ensures.value)
          (ap (λ b. b.items) c.in_ok-make_shared.ensures ∙ ap (λ p. p.bytes.items) c.index_mut-page.ensures.value)
          ∙ c.loop-i.invariant.memory;
      count = length-set _ _ _ ∙ c.loop-i.invariant.count;
    }
