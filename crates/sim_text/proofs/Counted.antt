-- A word and a number with more behind them.
use Rattle.std.proofs.Common.{◌≡◌, ℕ, ◌++◌, List, [], append_assoc}

pub counted_then : (word number rest : List ℕ) → (word ++ (number ++ [])) ++ rest ≡ word ++ (number ++ rest)
counted_then word number rest = simp append_assoc
