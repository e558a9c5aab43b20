use Rattle.std.proofs.Common.{◌≡◌, ◌+◌, ◌-◌, ◌/◌, drop, map, refl, ap, sym, ◌∙◌, arith}
use Rattle.std.specs.FinMap.{get}
use Rattle.std.specs.Option.{option_or}
use Rattle.paged_memory.specs.Image.{extent_of, image_flags, parts_byte, zero_in}
use Rattle.paged_memory.specs.Parts.{IsPlaced}
use Rattle.paged_memory.specs.Pages.{mem_of, memory_of}
use Rattle.paged_memory.proofs.Over.{get-set_bytes-low}
use Rattle.paged_memory.proofs.Held.{all_owned}
use Rattle.paged_memory.proofs.Parts.{placed_at, placed_bytes_low, bytes_mapped, bytes_of_none, bytes_of_more, bytes_of_all}
use Rattle.paged_memory.proofs.image.put_parts.Goals as goal

pub loop-left-init : goal.loop-left-init
loop-left-init c = record {
  bound = omega arith;
  fine = c.requires.fine;
  flags = refl;
  owned = refl;
  bytes = λ a. bytes_of_none c.args.parts.now a _ _ (c.requires.zero a ∙ ap zero_in (c.requires.flags (a / 4096)));
}

pub put_bytes-requires-clause-there : goal.put_bytes-requires-clause-there
put_bytes-requires-clause-there c =
    bytes_mapped c.args.parts.now (c.loop-left.left - 1) _ (memory_of c.loop-left.pages.items) c.requires.parts.placed (omega arith)
    (λ n. ap (λ m. get m n) c.loop-left.invariant.flags ∙ c.requires.flags n)

pub put_bytes-requires-clause-owned : goal.put_bytes-requires-clause-owned
put_bytes-requires-clause-owned c k l there =
    rw c.loop-left.invariant.owned (all_owned c.args.pages.now.items _ c.requires.fine c.requires.own
    (rw c.loop-left.invariant.flags at there))

pub loop-left-preserved : goal.loop-left-preserved
loop-left-preserved c =
    let next : c.loop-left.left - 1 + 1 ≡ c.loop-left.left = omega arith in
    record {
      bound = omega arith;
      fine = c.put_bytes.ensures.fine;
      flags = c.put_bytes.ensures.flags ∙ c.loop-left.invariant.flags;
      owned = c.put_bytes.ensures.owned ∙ c.loop-left.invariant.owned;
      bytes =
          λ a. bytes_of_more c.args.parts.now (c.loop-left.left - 1) _ a (get (mem_of c.loop-left.pages.items) a) _ c.requires.parts.apart
          (omega arith) (placed_at IsPlaced c.args.parts.now (c.loop-left.left - 1) _ c.requires.parts.placed (omega arith)).inside
          (c.loop-left.invariant.bytes a ∙ ap (λ k. option_or (parts_byte (drop k (map extent_of c.args.parts.now)) a)
          (zero_in (image_flags (map extent_of c.args.parts.now) (a / 4096)))) (sym next))
          (ap (λ m. get m a) c.put_bytes.ensures.bytes
          ∙ get-set_bytes-low (mem_of c.loop-left.pages.items) _ _ a
          (placed_bytes_low _ (placed_at IsPlaced c.args.parts.now (c.loop-left.left - 1) _ c.requires.parts.placed (omega arith))));
    }

pub returns-clause-memory : goal.returns-clause-memory
returns-clause-memory c =
    let done : c.loop-left.left ≡ 0 = omega arith in
    record {
      flags = λ n. ap (λ m. get m n) c.loop-left.invariant.flags ∙ c.requires.flags n;
      bytes =
          λ a. bytes_of_all (map extent_of c.args.parts.now) a (get (mem_of c.loop-left.pages.items) a)
          (rw done at (c.loop-left.invariant.bytes a));
    }
