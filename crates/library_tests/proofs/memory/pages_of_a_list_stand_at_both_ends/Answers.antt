use Rattle.std.proofs.Common.{refl, arith}
use Rattle.library_tests.proofs.TwoPages.{two_listed}
use Rattle.library_tests.proofs.memory.pages_of_a_list_stand_at_both_ends.Goals as goal

pub from_pages-requires : goal.from_pages-requires
from_pages-requires g c =
    rw (c.in_ok-push-2.ensures.items, c.in_ok-push.ensures.items, c.new-list.ensures.items) (two_listed _ _
    (record {
      aligned = refl;
      private = λ e. absurd (omega arith);
      flags = omega arith;
      full = omega (arith, c.in_ok-vec.field-0.ok, c.in_ok-vec.ensures.len);
    })
    (record {
      aligned = refl;
      private = λ e. absurd (omega arith);
      flags = omega arith;
      full = omega (arith, c.in_ok-vec-2.field-0.ok, c.in_ok-vec-2.ensures.len);
    })
    (omega arith))
