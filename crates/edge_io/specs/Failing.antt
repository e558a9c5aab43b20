-- Lists of calls that fail, for places in memory. Source: the project's own rule. Calls are counted from 1.
use Rattle.std.specs.Prelude.{ℕ, ◌+◌, ◌-◌, ◌^◌, ◌==◌, Bool, true, false, List, [], ◌∷◌, map, filter, fold}
use Rattle.std.specs.Prelude.{min}
use Rattle.std.specs.List.{list_any}

-- the number of the call after so many calls; a count that stands at its type's last value stays there
abbrev pub next_call : ℕ → ℕ
next_call made = min (made + 1) (2 ^ 64 - 1)

-- the list has no entry
abbrev pub is_nil : {A : Type 0} → List A → Bool
is_nil [] = true
is_nil (entry ∷ entries) = false

-- some entry of the list is for this call
abbrev pub is_listed : List (ℕ × ℕ) → ℕ → Bool
is_listed failing call = list_any (λ entry. entry.0 == call) failing

-- the most bytes that a call may append where there is room for so many: the least of the room and of what
-- its entries allow
abbrev pub allowance : List (ℕ × ℕ) → ℕ → ℕ → ℕ
allowance failing call room =
    fold min room (map (λ entry. entry.1) (filter (λ entry. entry.0 == call) failing))
