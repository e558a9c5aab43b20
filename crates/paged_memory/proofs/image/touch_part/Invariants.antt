use Rattle.std.proofs.Common.{◌≡◌, ℕ, ◌/◌, cond, true, Some, None}
use Rattle.std.specs.Prelude.{◌&&◌, nat_le, nat_lt}
use Rattle.std.specs.FinMap.{get}
use Rattle.paged_memory.specs.Image.{union}
use Rattle.paged_memory.specs.Parts.{IsZero}
use Rattle.paged_memory.specs.Pages.{perm_of, memory_of, IsFine, AreHeld}
use Rattle.paged_memory.proofs.image.touch_part.Given as goal

abbrev pub invariant-loop-n : goal.invariant-loop-n
invariant-loop-n l = record {
  fine : IsFine l.pages.items;
  zero : IsZero (memory_of l.pages.items);
  own : AreHeld true l.pages.items;
  flags : (q : ℕ) → get (perm_of l.pages.items) q
      ≡ union (cond (nat_le (l.part.address / 4096) q && nat_lt q l.n) (Some l.part.flags) None) (get (perm_of l.initial.pages.items) q);
}
