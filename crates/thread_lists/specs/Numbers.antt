-- The numbers of threads in a list.
use Rattle.std.specs.Prelude.{ℕ, List, map}
use Rattle.kernel_contexts.specs.Context.{thread_of}
use Rattle.kernel_contexts.specs.declared.whole.Whole.{Whole}

-- those of some contexts
abbrev pub numbers_of : {P T : Type 0} {b : _} → List (Whole P T b) → List ℕ
numbers_of wholes = map (λ w. thread_of w.context) wholes
