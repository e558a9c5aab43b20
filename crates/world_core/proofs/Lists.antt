-- Lists of which an item is taken or to which one is added.
use Rattle.std.proofs.Common.{◌≡◌, ℕ, zero, suc, ◌+◌, ◌++◌, List, [], ◌∷◌, map, take, length, ap, sym}
use Rattle.std.proofs.Common.{subst, arith, Some, append_assoc}
use Rattle.std.specs.Prelude.{slice_get, Contains, ◌==◌, if◌then◌else◌}
use Rattle.std.proofs.lemmas.Bool.Decides.{nat_tests}
use Rattle.std.proofs.lemmas.List.Elements.{Contains-append_right}
use Rattle.std.proofs.lemmas.Option.{same_Some, none-some, slice_get_past}

-- a fact of each item and its place, with one item more
pub placed_more : {X : Type 0} (P : ℕ → X → Type 0) (xs : List X) (x : X) → ((k : ℕ) (c : X) → slice_get xs k ≡ Some c → P k c)
    → P (length xs) x → (k : ℕ) (c : X) → slice_get (xs ++ x ∷ []) k ≡ Some c → P k c
placed_more P [] x h mine zero c get = subst (P zero) (same_Some x c get) mine
placed_more P [] x h mine (suc k) c get = absurd (none-some c get)
placed_more P (y ∷ ys) x h mine zero c get = h zero c get
placed_more P (y ∷ ys) x h mine (suc k) c get = placed_more (λ n d. P (suc n) d) ys x (λ n d g. h (suc n) d g) mine k c get

-- a list that has a first item
pub front_of : {X : Type 0} (xs : List X) (x : X) → slice_get xs 0 ≡ Some x → (rest : List X) × (xs ≡ x ∷ rest)
front_of [] x get = absurd (none-some x get)
front_of (y ∷ ys) x get = (ys, ap (λ z. z ∷ ys) (same_Some y x get))

-- each item is among the images of all
pub among_itself : {X Y : Type 0} (f : X → Y) (xs : List X) (i : ℕ) (x : X) → slice_get xs i ≡ Some x → Contains (map f xs) (f x)
among_itself f [] i x get = absurd (none-some x get)
among_itself f (y ∷ ys) zero x get =
    (0, omega arith, ap f (same_Some y x get))
among_itself f (y ∷ ys) (suc i) x get = Contains-append_right (f y ∷ []) (map f ys) (f x) (among_itself f ys i x get)
