-- Lanes of vectors, on the bits of their numbers.
use Rattle.std.proofs.Common.{◌≡◌, ℕ, ◌+◌, ◌*◌, ◌%◌, ◌^◌, ◌<◌, ap, ap₂, ◌∙◌, arith, ℤ, ◌+ℤ◌, ◌*ℤ◌, List, [], ◌∷◌, Bool}
use Rattle.std.proofs.Common.{◌++◌, ◌≤◌, length, get_or, map, sym, subst, pos}
use Rattle.std.proofs.lemmas.List.{get_or_append_left, get_or-map, length-map}
use Rattle.std.proofs.lemmas.Simd.{get_or-chunk, length-chunk}
use Rattle.std.specs.Prelude.{FitsSigned}
use Rattle.std.specs.Simd.Lanes.{chunk}
use Rattle.std.specs.Int.{w16, w32, w64, int_wrap}
use Rattle.vector_elements.specs.declared.size.Size.{Size}
use Rattle.vector_elements.specs.Elements.{element_of}
use Rattle.vector_elements.specs.Numbers.{bytes_in}
use Rattle.outer_products.specs.OuterProducts.{number_of}
use Rattle.outer_products.specs.Sources.{number, AllFit, four_of, pair_place, unpaired, pair_number, dot_in_pairs}
use Rattle.std.proofs.lemmas.Int.{to_z-of_z, wrapping_add-bits, wrapping_mul_is, int_wrap-add_left, int_wrap-add_right}
use mir.Syntax.{Width}
use mir.Val.{bits, to_z, of_z}

-- the bits of a product of two numbers of half the width
abbrev product : Width → Width → ℤ → ℤ → ℕ
product wide w a b = (of_z wide (to_z w (of_z w a)) * of_z wide (to_z w (of_z w b))) % 2 ^ bits wide

abbrev sum : Width → ℕ → ℕ → ℕ
sum w x y = (x + y) % 2 ^ bits w

product_is : (wide w : Width) (a b : ℤ) → FitsSigned w a → FitsSigned w b → FitsSigned wide a → FitsSigned wide b
    → to_z wide (product wide w a b) ≡ int_wrap wide (a *ℤ b)
product_is wide w a b fa fb ga gb =
    ap₂ (λ x y. to_z wide ((of_z wide x * of_z wide y) % 2 ^ bits wide)) (to_z-of_z w a fa) (to_z-of_z w b fb)
    ∙ wrapping_mul_is wide a b ga gb

added : (w : Width) (x y : ℕ) (p q : ℤ) → x < 2 ^ bits w → y < 2 ^ bits w
    → to_z w x ≡ int_wrap w p → to_z w y ≡ int_wrap w q → to_z w (sum w x y) ≡ int_wrap w (p +ℤ q)
added w x y p q fx fy is js =
    wrapping_add-bits w x y fx fy ∙ ap₂ (λ a b. int_wrap w (a +ℤ b)) is js
    ∙ int_wrap-add_left w p (int_wrap w q) ∙ int_wrap-add_right w p q

wider : (a : ℤ) → FitsSigned w16 a → FitsSigned w32 a
wider a f = record { sfits = omega (arith, f.sfits) }

longer : (a : ℤ) → FitsSigned w32 a → FitsSigned w64 a
longer a f = record { sfits = omega (arith, f.sfits) }

-- four products, added as neighbours are
pub word_lane : (n0 m0 n1 m1 n2 m2 n3 m3 : ℤ)
    → FitsSigned w16 n0 → FitsSigned w16 m0 → FitsSigned w16 n1 → FitsSigned w16 m1
    → FitsSigned w16 n2 → FitsSigned w16 m2 → FitsSigned w16 n3 → FitsSigned w16 m3
    → to_z w32 (sum w32 (sum w32 (product w32 w16 n0 m0) (product w32 w16 n1 m1)) (sum w32 (product w32 w16 n2 m2) (product w32 w16 n3 m3)))
    ≡ int_wrap w32 ((n0 *ℤ m0 +ℤ n1 *ℤ m1) +ℤ (n2 *ℤ m2 +ℤ n3 *ℤ m3))
word_lane n0 m0 n1 m1 n2 m2 n3 m3 a0 b0 a1 b1 a2 b2 a3 b3 =
    added w32 _ _ _ _ (omega arith) (omega arith)
    (added w32 _ _ _ _ (omega arith) (omega arith) (product_is w32 w16 n0 m0 a0 b0 (wider n0 a0) (wider m0 b0))
    (product_is w32 w16 n1 m1 a1 b1 (wider n1 a1) (wider m1 b1)))
    (added w32 _ _ _ _ (omega arith) (omega arith) (product_is w32 w16 n2 m2 a2 b2 (wider n2 a2) (wider m2 b2))
    (product_is w32 w16 n3 m3 a3 b3 (wider n3 a3) (wider m3 b3)))

pub doubleword_lane : (n0 m0 n1 m1 n2 m2 n3 m3 : ℤ)
    → FitsSigned w32 n0 → FitsSigned w32 m0 → FitsSigned w32 n1 → FitsSigned w32 m1
    → FitsSigned w32 n2 → FitsSigned w32 m2 → FitsSigned w32 n3 → FitsSigned w32 m3
    → to_z w64 (sum w64 (sum w64 (product w64 w32 n0 m0) (product w64 w32 n1 m1)) (sum w64 (product w64 w32 n2 m2) (product w64 w32 n3 m3)))
    ≡ int_wrap w64 ((n0 *ℤ m0 +ℤ n1 *ℤ m1) +ℤ (n2 *ℤ m2 +ℤ n3 *ℤ m3))
doubleword_lane n0 m0 n1 m1 n2 m2 n3 m3 a0 b0 a1 b1 a2 b2 a3 b3 =
    added w64 _ _ _ _ (omega arith) (omega arith)
    (added w64 _ _ _ _ (omega arith) (omega arith) (product_is w64 w32 n0 m0 a0 b0 (longer n0 a0) (longer m0 b0))
    (product_is w64 w32 n1 m1 a1 b1 (longer n1 a1) (longer m1 b1)))
    (added w64 _ _ _ _ (omega arith) (omega arith) (product_is w64 w32 n2 m2 a2 b2 (longer n2 a2) (longer m2 b2))
    (product_is w64 w32 n3 m3 a3 b3 (longer n3 a3) (longer m3 b3)))

-- the sum of products by places that are named in two ways
same_dots : {A : Type 0} → (f : ℤ → A) (n m : List ℤ) (j0 j1 j2 j3 k0 k1 k2 k3 : ℕ) → j0 ≡ k0 → j1 ≡ k1 → j2 ≡ k2 → j3 ≡ k3
    → f ((number n 0 *ℤ number m j0 +ℤ number n 1 *ℤ number m j1) +ℤ (number n 2 *ℤ number m j2 +ℤ number n 3 *ℤ number m j3))
    ≡ f ((number n 0 *ℤ number m k0 +ℤ number n 1 *ℤ number m k1) +ℤ (number n 2 *ℤ number m k2 +ℤ number n 3 *ℤ number m k3))
same_dots f n m j0 j1 j2 j3 k0 k1 k2 k3 e0 e1 e2 e3 = λ i.
    f ((number n 0 *ℤ number m (e0 i) +ℤ number n 1 *ℤ number m (e1 i)) +ℤ (number n 2 *ℤ number m (e2 i) +ℤ number n 3 *ℤ number m (e3 i)))

-- the same of lists, the second in pairs
pub word_dot : (n m : List ℤ) → AllFit w16 n → AllFit w16 m → (c j0 j1 j2 j3 : ℕ)
    → j0 ≡ pair_place 4 c 0 → j1 ≡ pair_place 4 c 1 → j2 ≡ pair_place 4 c 2 → j3 ≡ pair_place 4 c 3
    → to_z w32 (sum w32 (sum w32 (product w32 w16 (number n 0) (number m j0)) (product w32 w16 (number n 1) (number m j1)))
    (sum w32 (product w32 w16 (number n 2) (number m j2)) (product w32 w16 (number n 3) (number m j3))))
    ≡ int_wrap w32 (dot_in_pairs 4 n m c)
unfolding dot_in_pairs
word_dot n m a b c j0 j1 j2 j3 e0 e1 e2 e3 =
    word_lane (number n 0) (number m j0) (number n 1) (number m j1) (number n 2) (number m j2) (number n 3) (number m j3)
    (a 0) (b j0) (a 1) (b j1) (a 2) (b j2) (a 3) (b j3)
    ∙ same_dots (λ z. int_wrap w32 z) n m _ _ _ _ _ _ _ _ e0 e1 e2 e3

-- a lane of numbers that are read at once
pub lane_at : (w : Width) (m : List ℤ) (ys : List ℕ) (a n k : ℕ) → a + n ≤ length m → k < n
    → get_or (map (of_z w) (chunk a n m) ++ ys) k 0 ≡ of_z w (number m (a + k))
lane_at w m ys a n k room below =
    let long = length-chunk a n m room in
    let mapped : length (map (of_z w) (chunk a n m)) ≡ n = length-map (chunk a n m) (of_z w) ∙ long in
    get_or_append_left (map (of_z w) (chunk a n m)) ys 0 k (subst (λ l. k < l) (sym mapped) below)
    ∙ get_or-map (of_z w) (chunk a n m) k (pos 0) 0 (subst (λ l. k < l) (sym long) below)
    ∙ ap (of_z w) (get_or-chunk a n m k (pos 0) below)

-- the bits of a product with a lane
abbrev lane_product : ℤ → ℕ → ℕ
lane_product a x = (of_z w64 (to_z w32 (of_z w32 a)) * of_z w64 (to_z w32 x)) % 2 ^ 64

pub doubleword_dot : (n m : List ℤ) → AllFit w32 n → AllFit w32 m → (c j0 j1 j2 j3 x0 x1 x2 x3 : ℕ)
    → x0 ≡ of_z w32 (number m j0) → x1 ≡ of_z w32 (number m j1) → x2 ≡ of_z w32 (number m j2) → x3 ≡ of_z w32 (number m j3)
    → j0 ≡ pair_place 2 c 0 → j1 ≡ pair_place 2 c 1 → j2 ≡ pair_place 2 c 2 → j3 ≡ pair_place 2 c 3
    → to_z w64 (sum w64 (sum w64 (lane_product (number n 0) x0) (lane_product (number n 1) x1))
    (sum w64 (lane_product (number n 2) x2) (lane_product (number n 3) x3)))
    ≡ int_wrap w64 (dot_in_pairs 2 n m c)
unfolding dot_in_pairs
doubleword_dot n m a b c j0 j1 j2 j3 x0 x1 x2 x3 l0 l1 l2 l3 e0 e1 e2 e3 =
    (λ i. to_z w64 (sum w64 (sum w64 (lane_product (number n 0) (l0 i)) (lane_product (number n 1) (l1 i)))
    (sum w64 (lane_product (number n 2) (l2 i)) (lane_product (number n 3) (l3 i)))))
    ∙ doubleword_lane (number n 0) (number m j0) (number n 1) (number m j1) (number n 2) (number m j2) (number n 3) (number m j3)
    (a 0) (b j0) (a 1) (b j1) (a 2) (b j2) (a 3) (b j3)
    ∙ same_dots (λ z. int_wrap w64 z) n m _ _ _ _ _ _ _ _ e0 e1 e2 e3

pub two_lanes : {A : Type 0} → {a b c d : A} → a ≡ c → b ≡ d → a ∷ b ∷ [] ≡ c ∷ d ∷ []
two_lanes first second = λ i. first i ∷ second i ∷ []

pub four_lanes : {A : Type 0} → {a b c d e f g h : A} → a ≡ e → b ≡ f → c ≡ g → d ≡ h → a ∷ b ∷ c ∷ d ∷ [] ≡ e ∷ f ∷ g ∷ h ∷ []
four_lanes first second third fourth = λ i. first i ∷ second i ∷ third i ∷ fourth i ∷ []

pub eight_lanes : {A : Type 0} → {a b c d e f g h p q r s t u v w : A} → a ≡ p → b ≡ q → c ≡ r → d ≡ s → e ≡ t → f ≡ u → g ≡ v → h ≡ w
    → a ∷ b ∷ c ∷ d ∷ e ∷ f ∷ g ∷ h ∷ [] ≡ p ∷ q ∷ r ∷ s ∷ t ∷ u ∷ v ∷ w ∷ []
eight_lanes a b c d e f g h = λ i. a i ∷ b i ∷ c i ∷ d i ∷ e i ∷ f i ∷ g i ∷ h i ∷ []

-- a number among others in pairs
pub pair_lane : (w : Width) (size : Size) (signed : Bool) (bytes : List ℕ) (count j k : ℕ) (x : ℤ) (y : ℕ) → FitsSigned w x
    → x ≡ number_of signed size y → y ≡ element_of (bytes_in size) bytes j → j ≡ unpaired count k
    → to_z w (of_z w x) ≡ pair_number count size signed bytes k
pair_lane w size signed bytes count j k x y fits is from place =
    to_z-of_z w x fits ∙ is ∙ ap (number_of signed size) from ∙ ap (λ i. number_of signed size (element_of (bytes_in size) bytes i)) place

-- four numbers of a list, as they are read
pub read_four : (w : Width) (n : List ℤ) (r : ℕ) → AllFit w n
    → to_z w (of_z w (number n (4 * r))) ∷ to_z w (of_z w (number n (4 * r + 1)))
    ∷ to_z w (of_z w (number n (4 * r + 2))) ∷ to_z w (of_z w (number n (4 * r + 3))) ∷ [] ≡ four_of n r
read_four w n r fit =
    four_lanes (to_z-of_z w _ (fit (4 * r))) (to_z-of_z w _ (fit (4 * r + 1))) (to_z-of_z w _ (fit (4 * r + 2)))
    (to_z-of_z w _ (fit (4 * r + 3)))
