-- The answers to the vectors of a file.
use Rattle.std.specs.Prelude.{ℕ, ◌++◌, List, [], ◌∷◌, map, Result, Ok, Err}
use Rattle.std.specs.List.{flat_map}
use Rattle.std.specs.declared.vec.Vec.{Vec}
use Rattle.sm_types.specs.declared.length.VecLen.{VecLen}
use Rattle.sm_types.specs.declared.Memory.{Memory}
use Rattle.vector_runner.specs.Field.{Vector}
use Rattle.vector_runner.specs.Answer.{answer}

-- the answers to vectors, in order
unfoldable pub answers : VecLen → VecLen → List Vector → List (List ℕ)
answers vl svl vectors = map (answer vl svl) vectors

-- lines, each with a line feed (10) after it
unfoldable pub lines_text : List (List ℕ) → List ℕ
lines_text lines = flat_map (λ line. line ++ 10 ∷ []) lines

-- the text of the answers
abbrev pub answers_text : VecLen → VecLen → List Vector → List ℕ
answers_text vl svl vectors = lines_text (answers vl svl vectors)

-- what a worker answers, or nothing after want of memory
abbrev pub lines_of : {A B : Type 0} → Result (Vec (Vec ℕ A) B) Memory → List (List ℕ)
lines_of (Ok lines) = map (λ line. line.items) lines.items
lines_of (Err memory) = []
