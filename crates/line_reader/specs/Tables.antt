-- Words in a table of the code.
use Rattle.std.specs.Prelude.{ℕ, List, [], ◌∷◌, Option, Some, None, if◌then◌else◌}
use Rattle.std.specs.Str.{bytes_eq}

-- the value of the first row whose text is the word
unfoldable pub found : {R A : Type 0} → (R → List ℕ) → (R → A) → List R → List ℕ → Option A
found text value [] word = None
found text value (row ∷ rows) word =
    if bytes_eq word (text row) then Some (value row) else found text value rows word
