-- Tables of fields, knowing nothing of what they are for: how many bytes a field has, what they must be, and
-- which fields follow it, which may depend on its bytes.
use Rattle.std.specs.Prelude.{◌≡◌, ℕ, ◌+◌, Bool, true, nat_lt, cond, List, [], ◌∷◌, take, drop, length}
use Rattle.std.specs.Prelude.{Option, Some, None}
use Rattle.std.specs.List.{concat}

pub data Table : Type 0 where
  Field : ℕ → (List ℕ → Bool) → (List ℕ → Table) → Table
  End : Table

-- the offset of the first field that is not whole in the file or not as it must be, the file going on with
-- these bytes at an offset; or of the first byte past the last field
unfoldable pub first_bad : Table → List ℕ → ℕ → Option ℕ
first_bad End [] at = None
first_bad End (byte ∷ bytes) at = Some at
first_bad (Field n is_right next) bytes at =
    cond (nat_lt (length bytes) n) (Some at)
    (cond (is_right (take n bytes)) (first_bad (next (take n bytes)) (drop n bytes) (at + n)) (Some at))

-- these are the bytes of its first fields, each as they must be, and this is the table of what follows them
unfoldable pub Passes : Table → List (List ℕ) → Table → Type 0
Passes table [] next = table ≡ next
Passes End (value ∷ values) next = ⊥
Passes (Field n is_right follows) (value ∷ values) next =
    (length value ≡ n) × (is_right value ≡ true) × Passes (follows value) values next

-- these are the bytes of its fields, each as they must be
abbrev pub IsFilled : Table → List (List ℕ) → Type 0
IsFilled End [] = Unit {0}
IsFilled End (value ∷ values) = ⊥
IsFilled (Field n is_right next) [] = ⊥
IsFilled (Field n is_right next) (value ∷ values) =
    (length value ≡ n) × (is_right value ≡ true) × IsFilled (next value) values

-- a file without a bad field is that of the bytes of its fields
pub record Fills (table : Table) (bytes : List ℕ) : Type 0 where
  pub values : List (List ℕ)
  pub filled : IsFilled table values
  pub whole : bytes ≡ concat values
