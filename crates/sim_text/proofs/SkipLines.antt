-- The lines of events one after another.
use Rattle.std.proofs.Common.{◌≡◌, ℕ, ◌++◌, List, [], ◌∷◌, refl, ◌⊎◌, inl, inr}
use Rattle.world_core.specs.declared.event.Applied.{Applied}
use Rattle.sim_text.specs.Skips.{skip_line, skips_text}

-- the first of the events that are left
pub skips_first : (lines later : List ℕ) (answers others : List Applied) (line : ℕ) (answer : Applied) → lines ≡ line ∷ later
    → answers ≡ answer ∷ others → skips_text lines answers ≡ skip_line line answer ++ skips_text later others
unfolding skips_text
skips_first lines later answers others line answer e f = rw (e, f) refl

no_answers : (lines : List ℕ) → skips_text lines [] ≡ []
unfolding skips_text
no_answers [] = refl
no_answers (line ∷ lines) = refl

no_lines : (answers : List Applied) → skips_text [] answers ≡ []
unfolding skips_text
no_lines answers = refl

-- none is left
pub skips_end : (lines : List ℕ) (answers : List Applied) → (lines ≡ []) ⊎ (answers ≡ []) → skips_text lines answers ≡ []
skips_end lines answers (inl e) = rw e (no_lines answers)
skips_end lines answers (inr e) = rw e (no_answers lines)
