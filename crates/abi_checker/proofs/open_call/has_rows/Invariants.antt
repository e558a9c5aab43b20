use Rattle.std.proofs.Common.{◌≡◌, ◌-◌, ◌<◌, ℕ, [], get_or, length}
use Rattle.sve_vectors.specs.Layout.{items_of}
use Rattle.abi_checker.proofs.open_call.has_rows.Given as goal

abbrev pub invariant-rows : goal.invariant-rows
invariant-rows l = (k : ℕ) → k < l.index → get_or l.za.vectors k [] ≡ get_or (items_of l.rows) k []

abbrev pub decreases-rows : goal.decreases-rows
decreases-rows l = length l.rows - l.index
