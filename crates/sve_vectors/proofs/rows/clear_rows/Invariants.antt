use Rattle.std.proofs.Common.{◌≡◌, ℕ, ◌<◌, [], length, take, replicate, get_or}
use Rattle.sve_vectors.specs.Layout.{items_of}
use Rattle.sve_vectors.proofs.rows.clear_rows.Given as goal

abbrev pub invariant-loop-i : goal.invariant-loop-i
invariant-loop-i l = record {
  count : length l.rows ≡ length l.initial.rows;
  zero : (k : ℕ) → k < l.i → take l.size (get_or (items_of l.rows) k []) ≡ replicate l.size 0;
  long : (k : ℕ) → k < length l.initial.rows → length (get_or (items_of l.rows) k []) ≡ length (get_or (items_of l.initial.rows) k []);
}
