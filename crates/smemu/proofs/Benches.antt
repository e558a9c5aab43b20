-- What the threads of a workload have counted.
use Rattle.std.proofs.Common.{◌≡◌, ℕ, ◌+◌, ◌<◌, ◌≤◌, List, [], length, drop, get_or, suc, refl, arith}
use Rattle.std.proofs.lemmas.Grind.{common_steps}
use Rattle.std.proofs.Common.{drop-cons}
use Rattle.kernel_contexts.specs.Context.{state_of}
use Rattle.kernel_contexts.specs.declared.context.Context.{Context}
use Rattle.report_text.specs.Ends.{ends_of}
use Rattle.smemu.specs.Bench.{all_counted}

-- those of the threads from one on are its own, and those of the others
pub counted_next : (contexts : List Context) (k : ℕ) (d : Context) → k < length contexts
    → all_counted (ends_of (drop k contexts)) ≡ (state_of (get_or contexts k d)).count + all_counted (ends_of (drop (k + 1) contexts))
counted_next contexts k d h = let e : k + 1 ≡ suc k = omega arith in rw (drop-cons contexts k d h, e) refl

pub counted_none : (contexts : List Context) (k : ℕ) → length contexts ≤ k → all_counted (ends_of (drop k contexts)) ≡ 0
counted_none contexts k h = let e : drop k contexts ≡ [] = grind (arith, common_steps) in rw e refl
