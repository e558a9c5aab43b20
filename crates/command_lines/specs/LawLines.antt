-- The lines of a check of marked calls.
use Rattle.std.specs.Prelude.{ℕ, [], ◌∷◌, List, decimal, codes}
use Rattle.std.specs.List.{concat}
use Rattle.text_lines.specs.Lines.{hex64}

-- the line where each marked call that returned had a lawful callee: how many returned, and how many did not
unfoldable pub lawful_line : ℕ → ℕ → List ℕ
lawful_line returned unreturned =
    concat (codes "abi yes calls " ∷ decimal returned ∷ codes " open " ∷ decimal unreturned ∷ codes "\n" ∷ [])

-- the line of the first fault of marked calls: the count and the PC of its place, and the word of its kind
unfoldable pub unlawful_line : ℕ → ℕ → List ℕ → List ℕ
unlawful_line count pc kind =
    concat (codes "unlawful: count " ∷ decimal count ∷ codes " pc " ∷ hex64 pc ∷ codes " " ∷ kind
    ∷ codes "\n" ∷ [])
