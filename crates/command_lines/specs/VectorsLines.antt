-- The line for which a file of vectors is refused.
use Rattle.std.specs.Prelude.{ℕ, [], ◌∷◌, List, decimal, codes}
use Rattle.std.specs.List.{concat}
use Rattle.command_lines.specs.declared.vectors_line.VectorsFault.{VectorsFault}
use Rattle.command_lines.specs.declared.vectors_line.VectorsFault.TheVariants.{TooLong, Line}

-- the line that is written for a fault of a file of vectors
unfoldable pub vectors_line : VectorsFault → List ℕ
vectors_line TooLong = codes "bad vectors: toolong\n"
vectors_line (Line line) = concat (codes "bad vectors: line " ∷ decimal line ∷ codes "\n" ∷ [])
