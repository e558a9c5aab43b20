-- Fields that are put at the end of a file.
use Rattle.std.specs.Prelude.{◌≡◌, ℕ, List, ◌++◌}
use Rattle.std.specs.List.{concat}

-- a file has these fields at its end besides
abbrev pub IsPut : List (List ℕ) → List ℕ → List ℕ → Type 0
IsPut values old new = new ≡ old ++ concat values
