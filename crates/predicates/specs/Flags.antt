-- The flags of a result that is governed by a mask.
-- Source: DDI 0487, J1.1: PredTest, FirstActive, NoneActive, LastActive.
use Rattle.std.specs.Prelude.{◌≡◌, ℕ, ◌<◌, ◌↔◌, Bool, false, not, if◌then◌else◌, List, [], ◌∷◌, length}
use Rattle.std.specs.Prelude.{slice_index}
use Rattle.std.specs.Int.{bit_at}
use Rattle.std.specs.List.{list_any}
use Rattle.bit_ops.specs.declared.sums.Nzcv.{Nzcv}

-- of a truth value for each element, those of the active elements, in order
unfoldable pub governed : List Bool → List Bool → List Bool
governed [] results = []
governed (on ∷ mask) [] = []
governed (on ∷ mask) (x ∷ results) = if on then x ∷ governed mask results else governed mask results

-- the first of some truth values, and the last; where there are none, the given one
abbrev pub first_or : Bool → List Bool → Bool
first_or none [] = none
first_or none (x ∷ xs) = x

abbrev pub last_or : Bool → List Bool → Bool
last_or none [] = none
last_or none (x ∷ xs) = last_or x xs

-- one of them is true
abbrev pub any_true : List Bool → Bool
any_true xs = list_any (λ x. x) xs

-- N: the first active element is true. Z: no active element is. C: the last active element is not. V is 0.
unfoldable pub flags_of : List Bool → List Bool → Nzcv
flags_of mask results = record {
  n = first_or false (governed mask results);
  z = not (any_true (governed mask results));
  c = not (last_or false (governed mask results));
  v = false;
}

-- a bit of a number is clear exactly where it is in each byte
abbrev pub HasBitsOfSome : ℕ → List ℕ → Type 0
HasBitsOfSome bits p =
    (k : ℕ) → k < 8 → (bit_at bits k ≡ 0) ↔ ((j : ℕ) → j < length p → bit_at (slice_index p j) k ≡ 0)
