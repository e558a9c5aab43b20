-- What a list of failing calls lets a call append.
use Rattle.std.proofs.Common.{◌≡◌, ◌≤◌, ◌==◌, ℕ, Bool, false, List, [], ◌∷◌, map, filter, fold, min, refl, arith, ap}
use Rattle.std.specs.List.{list_any}
use Rattle.std.proofs.lemmas.Grind.{common_steps}
use Rattle.edge_io.specs.Failing.{allowance, is_listed}

fold-min-le : (xs : List ℕ) (room : ℕ) → fold min room xs ≤ room
fold-min-le [] room = omega arith
fold-min-le (x ∷ xs) room = let h : fold min (min room x) xs ≤ min room x = fold-min-le xs (min room x) in omega arith

filter-none : {X : Type 0} (p : X → Bool) (xs : List X) → list_any p xs ≡ false → filter p xs ≡ []
filter-none p [] h = refl
filter-none p (x ∷ xs) h = grind (arith, common_steps, filter-none p xs)

pub allowance_le : (failing : List (ℕ × ℕ)) (call room : ℕ) → allowance failing call room ≤ room
allowance_le failing call room = fold-min-le (map (λ entry. entry.1) (filter (λ entry. entry.0 == call) failing)) room

pub allowance_unlisted : (failing : List (ℕ × ℕ)) (call room : ℕ) → is_listed failing call ≡ false → allowance failing call room ≡ room
allowance_unlisted failing call room h =
    ap (λ entries. fold min room (map (λ entry. entry.1) entries)) (filter-none (λ entry. entry.0 == call) failing h)
