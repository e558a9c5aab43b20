-- Checks of whole tables that say what fails: the places of those that do not pass are none.
use Rattle.std.proofs.Common.{◌≡◌, ℕ, zero, suc, ◌+◌, ◌&&◌, Bool, true, false, cond, List, [], ◌∷◌, refl, ap₂}
use Rattle.std.specs.List.{list_all}
use Rattle.asm_operands.proofs.MaskFields.{all_below}

-- the places, from one on, of those that do not pass
unfoldable pub failing : {A : Type 0} (p : A → Bool) → ℕ → List A → List ℕ
failing p at [] = []
failing p at (x ∷ xs) = cond (p x) (failing p (at + 1) xs) (at ∷ failing p (at + 1) xs)

passes_both : (b : Bool) (at : ℕ) (rest : List ℕ) → cond b rest (at ∷ rest) ≡ [] → (b ≡ true) × (rest ≡ [])
passes_both true at rest e = (refl, e)
passes_both false at rest e = cc

pub none-failing : {A : Type 0} (p : A → Bool) (at : ℕ) (xs : List A) → failing p at xs ≡ [] → list_all p xs ≡ true
unfolding failing
none-failing p at [] e = refl
none-failing p at (x ∷ xs) e =
    let q = passes_both (p x) at (failing p (at + 1) xs) e in ap₂ (λ a b. a && b) q.0 (none-failing p (at + 1) xs q.1)

-- the numbers below another that do not pass
unfoldable pub failing_below : (ℕ → Bool) → ℕ → List ℕ
failing_below p zero = []
failing_below p (suc n) = cond (p n) (failing_below p n) (n ∷ failing_below p n)

pub none-below : (p : ℕ → Bool) (n : ℕ) → failing_below p n ≡ [] → all_below p n ≡ true
unfolding failing_below all_below
none-below p zero e = refl
none-below p (suc n) e = let q = passes_both (p n) n (failing_below p n) e in ap₂ (λ a b. a && b) q.0 (none-below p n q.1)
