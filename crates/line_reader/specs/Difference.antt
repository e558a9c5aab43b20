-- The first line in which two texts differ.
use Rattle.std.specs.Prelude.{ℕ, ◌+◌, List, [], ◌∷◌, Option, Some, None, if◌then◌else◌}
use Rattle.std.specs.Str.{bytes_eq}

-- how many lines of either text stand before it, and the line of each; a line that is not there is empty
pub record Difference : Type 0 where
  pub line : ℕ
  pub first : List ℕ
  pub second : List ℕ

-- the first of the lines of one text that is another in the other, behind so many lines of both
unfoldable pub first_difference : ℕ → List (List ℕ) → List (List ℕ) → Option Difference
first_difference line [] [] = None
first_difference line (a ∷ rest) [] = Some (record { line = line; first = a; second = [] })
first_difference line [] (b ∷ others) = Some (record { line = line; first = []; second = b })
first_difference line (a ∷ rest) (b ∷ others) =
    if bytes_eq a b then first_difference (line + 1) rest others
    else Some (record { line = line; first = a; second = b })
