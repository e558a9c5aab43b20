-- A text of which a part has been gathered. Source: the project's own rule.
use Rattle.std.specs.Prelude.{ℕ, ◌≡◌, ◌++◌, List, Ok}
use Rattle.edge_io.specs.Pieces.{Gathered, Gathers}

-- A part of a text has been gathered, and this is left.
pub record SoFar (first now : Gathered) (rest all : List ℕ) : Type 0 where
  pub text : List ℕ
  pub gathers : Gathers first now (Ok tt) text
  pub whole : text ++ rest ≡ all
