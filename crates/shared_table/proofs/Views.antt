-- Books, and lists of views of which one is changed.
use Rattle.std.proofs.Common.{◌≡◌, ◌≢◌, ℕ, zero, suc, ◌<◌, List, [], ◌∷◌, ◌++◌, length, set, get_or, replicate}
use Rattle.std.proofs.Common.{refl, sym, subst, ⊎_elim, arith}
use mathlib.Core.Option.{some, some-injective, some-ne-none}
use lib.ListN.{get_elem?}
use Rattle.atomic_table.proofs.Lists.{at_set}
use Rattle.shared_table.specs.declared.view.Told.{Told}
use Rattle.shared_table.specs.declared.view.Told.TheVariants.{Never, Out}
use Rattle.shared_table.specs.declared.view.SeatView.{SeatView}

-- of each view, where one is changed
pub each_set : (F : ℕ → SeatView → Type 0) (views : List SeatView) (id : ℕ) (w : SeatView) → F id w
    → ((j : ℕ) (u : SeatView) → j ≢ id → get_elem? views j ≡ some u → F j u)
    → (j : ℕ) (u : SeatView) → get_elem? (set views id w) j ≡ some u → F j u
each_set F views id w mine others j u at =
    ⊎_elim
    (λ (x : (j ≡ id) × (w ≡ u)). subst (λ (y : ℕ × SeatView). F y.0 y.1) (λ i. (sym x.0 i, x.1 i)) mine)
    (λ (x : (j ≢ id) × (get_elem? views j ≡ some u)). others j u x.0 x.1)
    (at_set views id j w u at)

-- of each view, with one more at the end
pub each_snoc : (F : ℕ → SeatView → Type 0) (views : List SeatView) (w : SeatView) → F (length views) w
    → ((j : ℕ) (u : SeatView) → get_elem? views j ≡ some u → F j u)
    → (j : ℕ) (u : SeatView) → get_elem? (views ++ w ∷ []) j ≡ some u → F j u
each_snoc F [] w last others zero u at = subst (λ (x : SeatView). F 0 x) (some-injective w u at) last
each_snoc F [] w last others (suc j) u at = absurd (some-ne-none u (sym at))
each_snoc F (x ∷ xs) w last others zero u at = others zero u at
each_snoc F (x ∷ xs) w last others (suc j) u at =
    each_snoc (λ k v. F (suc k) v) xs w last (λ k v a. others (suc k) v a) j u at

-- a number that is out is in the book
pub out_in : (book : List Told) (t : ℕ) → get_or book t Never ≡ Out → t < length book
out_in [] t out = absurd (cc)
out_in (x ∷ xs) zero out = omega arith
out_in (x ∷ xs) (suc t) out = let r = out_in xs t out in omega arith

-- a number that was never given, and is no more than the book has, is in the book
pub never_in : (book : List Told) (t : ℕ) → get_or book t Out ≡ Never → (t < length book) × (get_or book t Never ≡ Never)
never_in [] t never = absurd (cc)
never_in (x ∷ xs) zero never = (omega arith, never)
never_in (x ∷ xs) (suc t) never = let r = never_in xs t never in (omega arith, r.1)

-- a new book tells of no number that it was given
pub never_new : (n t : ℕ) → get_or (replicate n Never) t Never ≡ Never
never_new zero t = refl
never_new (suc n) zero = refl
never_new (suc n) (suc t) = never_new n t

pub never_out : Never ≡ Out → ⊥
never_out same = cc
