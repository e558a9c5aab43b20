use Rattle.std.proofs.Common.{ℕ, ◌-◌, ◌<◌, ◌≤◌, length, get_or}
use Rattle.paged_memory.specs.declared.page.Page.{Page}
use Rattle.paged_memory.proofs.page.count_below.Given as goal

abbrev pub invariant-loop-low : goal.invariant-loop-low
invariant-loop-low l = record {
  order : l.low ≤ l.high;
  bound : l.high ≤ length l.pages;
  below : (k : ℕ) (d : Page) → k < l.low → (get_or l.pages k d).number < l.number;
  rest : (k : ℕ) (d : Page) → l.high ≤ k → k < length l.pages → l.number ≤ (get_or l.pages k d).number;
}

abbrev pub decreases-loop-low : goal.decreases-loop-low
decreases-loop-low l = l.high - l.low
