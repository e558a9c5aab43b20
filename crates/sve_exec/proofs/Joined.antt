-- Operations on lanes that are made of others.
use Rattle.std.proofs.Common.{◌≡◌, ℕ, ◌+◌, ◌-◌, ◌%◌, ◌<◌, ◌≤◌, List, [], ◌∷◌, ap, ap₂, ◌∙◌, refl, map, arith, inl, inr, cond, nat_lt, lt-ltb, le-ltb, min}
use Rattle.std.proofs.lemmas.Bool.{cases_lt, cond-true, cond-false}
use Rattle.std.specs.Simd.Lanes.{zip2, sel_l, Each1}
use Rattle.vector_elements.specs.declared.size.Size.{Size}
use Rattle.vector_elements.specs.declared.size.Size.TheVariants.{B, H, S, D}
use Rattle.vector_elements.specs.Numbers.{range_of}

-- the second lanes are changed first
pub zip2_changed : (f : ℕ → ℕ → ℕ) (h : ℕ → ℕ) (a b : List ℕ) → zip2 f a (map h b) ≡ zip2 (λ x y. f x (h y)) a b
zip2_changed f h [] b = refl
zip2_changed f h (x ∷ a) [] = refl
zip2_changed f h (x ∷ a) (y ∷ b) = ap (λ t. f x (h y) ∷ t) (zip2_changed f h a b)

-- the greater of two, less the second
lane_less : (size : Size) (x y : ℕ) → x < range_of size → y < range_of size
    → (cond (nat_lt x y) y x + (range_of size - y)) % range_of size ≡ x - y
lane_less size x y p q = elim (cases_lt x y) [
  | inl l ↦ ap (λ t. (t + (range_of size - y)) % range_of size) (cond-true _ y x (lt-ltb x y l)) ∙ none size x y p q l
  | inr g ↦ ap (λ t. (t + (range_of size - y)) % range_of size) (cond-false _ y x (le-ltb x y g)) ∙ some size x y p q g
]
  where
    none : (size : Size) (x y : ℕ) → x < range_of size → y < range_of size → x < y → (y + (range_of size - y)) % range_of size ≡ x - y
    none B x y p q l = omega (arith, p, q, l)
    none H x y p q l = omega (arith, p, q, l)
    none S x y p q l = omega (arith, p, q, l)
    none D x y p q l = omega (arith, p, q, l)

    some : (size : Size) (x y : ℕ) → x < range_of size → y < range_of size → y ≤ x → (x + (range_of size - y)) % range_of size ≡ x - y
    some B x y p q g = omega (arith, p, q, g)
    some H x y p q g = omega (arith, p, q, g)
    some S x y p q g = omega (arith, p, q, g)
    some D x y p q g = omega (arith, p, q, g)

pub lanes_less : (size : Size) (a b : List ℕ) → Each1 (λ x. x < range_of size) a → Each1 (λ x. x < range_of size) b
    → zip2 (λ x y. (x + (range_of size - y)) % range_of size) (sel_l (zip2 nat_lt a b) b a) b ≡ zip2 (λ x y. x - y) a b
lanes_less size [] b p q = refl
lanes_less size (x ∷ a) [] p q = refl
lanes_less size (x ∷ a) (y ∷ b) p q = ap₂ (λ t ts. t ∷ ts) (lane_less size x y p.0 q.0) (lanes_less size a b p.1 q.1)

-- the first and the lesser of the second and what it has room for
lane_more : (size : Size) (x y : ℕ) → x < range_of size → y < range_of size
    → (x + cond (nat_lt y (range_of size - 1 - x)) y (range_of size - 1 - x)) % range_of size ≡ min (x + y) (range_of size - 1)
lane_more size x y p q = elim (cases_lt y (range_of size - 1 - x)) [
  | inl l ↦ ap (λ t. (x + t) % range_of size) (cond-true _ y _ (lt-ltb y _ l)) ∙ all size x y p q l
  | inr g ↦ ap (λ t. (x + t) % range_of size) (cond-false _ y _ (le-ltb y _ g)) ∙ most size x y p q g
]
  where
    all : (size : Size) (x y : ℕ) → x < range_of size → y < range_of size → y < range_of size - 1 - x
        → (x + y) % range_of size ≡ min (x + y) (range_of size - 1)
    all B x y p q l = omega (arith, p, q, l)
    all H x y p q l = omega (arith, p, q, l)
    all S x y p q l = omega (arith, p, q, l)
    all D x y p q l = omega (arith, p, q, l)

    most : (size : Size) (x y : ℕ) → x < range_of size → y < range_of size → range_of size - 1 - x ≤ y
        → (x + (range_of size - 1 - x)) % range_of size ≡ min (x + y) (range_of size - 1)
    most B x y p q g = omega (arith, p, q, g)
    most H x y p q g = omega (arith, p, q, g)
    most S x y p q g = omega (arith, p, q, g)
    most D x y p q g = omega (arith, p, q, g)

pub lanes_more : (size : Size) (a b : List ℕ) → Each1 (λ x. x < range_of size) a → Each1 (λ x. x < range_of size) b
    → zip2 (λ x y. (x + y) % range_of size) a
    (sel_l (zip2 nat_lt b (map (λ x. range_of size - 1 - x) a)) b (map (λ x. range_of size - 1 - x) a))
    ≡ zip2 (λ x y. min (x + y) (range_of size - 1)) a b
lanes_more size [] b p q = refl
lanes_more size (x ∷ a) [] p q = refl
lanes_more size (x ∷ a) (y ∷ b) p q = ap₂ (λ t ts. t ∷ ts) (lane_more size x y p.0 q.0) (lanes_more size a b p.1 q.1)
