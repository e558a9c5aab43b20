-- Saturated sums and differences of signed elements, by sums and differences without a sign and tests of the sign bits.
use Rattle.std.proofs.Common.{◌≡◌, ℕ, zero, suc, ◌+◌, ◌-◌, ◌%◌, ◌<◌, ◌≤◌, min, max, List, [], ◌∷◌, ap, ap₂, ◌∙◌, sym, refl, arith, inl, inr, cond, length, replicate}
use Rattle.std.proofs.Common.{Bool, nat_lt, nat_le, lt-ltb, le-ltb, ltb-true, ltb-false, ℤ, pos, negsuc, ◌+ℤ◌, ◌-ℤ◌}
use Rattle.std.proofs.lemmas.Bool.{cases_lt, cond-true, cond-false, cond_both, le-leb, lt-leb}
use Rattle.std.proofs.lemmas.Int.{ints}
use Rattle.std.specs.Simd.Lanes.{zip2, sel_l, Each1}
use Rattle.plain_lemmas.proofs.Numbers.{pos_sub-le, pos_sub-lt}
use Rattle.sm_types.specs.declared.vector.VectorArithmeticOp.TheVariants.{Sqadd, Sqsub}
use Rattle.vector_elements.specs.declared.size.Size.{Size}
use Rattle.vector_elements.specs.declared.size.Size.TheVariants.{B, H, S, D}
use Rattle.vector_elements.specs.Numbers.{range_of, half_of, signed_of, wrapped}
use Rattle.sve_exec.specs.Arithmetic.{sum_of, difference_of, arithmetic_of}
use Rattle.sve_exec.specs.Numbers.{signed_saturated}

halves : (size : Size) → range_of size ≡ half_of size + half_of size
halves B = refl
halves H = refl
halves S = refl
halves D = refl

some : (size : Size) → 0 < half_of size
some B = omega arith
some H = omega arith
some S = omega arith
some D = omega arith

once : (size : Size) (n : ℕ) → n < range_of size → n % range_of size ≡ n
once B n p = omega arith
once H n p = omega arith
once S n p = omega arith
once D n p = omega arith

twice : (size : Size) (n : ℕ) → range_of size ≤ n → n < range_of size + range_of size → n % range_of size ≡ n - range_of size
twice B n p q = omega arith
twice H n p q = omega arith
twice S n p q = omega arith
twice D n p q = omega arith

-- the bits of a number from 0 on and of one below 0, saturated
up : (size : Size) (n : ℕ) → wrapped size (signed_saturated size (pos n)) ≡ min n (half_of size - 1)
unfolding wrapped signed_saturated
up B n = cond_both (nat_lt n (half_of B)) (pos n) (pos (half_of B - 1)) (λ z. wrapped B z ≡ min n (half_of B - 1))
    (λ e. omega (arith, ltb-true n (half_of B) e)) (λ e. omega (arith, ltb-false n (half_of B) e))
up H n = cond_both (nat_lt n (half_of H)) (pos n) (pos (half_of H - 1)) (λ z. wrapped H z ≡ min n (half_of H - 1))
    (λ e. omega (arith, ltb-true n (half_of H) e)) (λ e. omega (arith, ltb-false n (half_of H) e))
up S n = cond_both (nat_lt n (half_of S)) (pos n) (pos (half_of S - 1)) (λ z. wrapped S z ≡ min n (half_of S - 1))
    (λ e. omega (arith, ltb-true n (half_of S) e)) (λ e. omega (arith, ltb-false n (half_of S) e))
up D n = cond_both (nat_lt n (half_of D)) (pos n) (pos (half_of D - 1)) (λ z. wrapped D z ≡ min n (half_of D - 1))
    (λ e. omega (arith, ltb-true n (half_of D) e)) (λ e. omega (arith, ltb-false n (half_of D) e))

down : (size : Size) (n : ℕ) → wrapped size (signed_saturated size (negsuc n)) ≡ max (half_of size) (range_of size - 1 - n)
unfolding wrapped signed_saturated
down B n = cond_both (nat_lt (half_of B - 1) n) (negsuc (half_of B - 1)) (negsuc n) (λ z. wrapped B z ≡ max (half_of B) (range_of B - 1 - n))
    (λ e. omega (arith, ltb-true (half_of B - 1) n e)) (λ e. omega (arith, ltb-false (half_of B - 1) n e))
down H n = cond_both (nat_lt (half_of H - 1) n) (negsuc (half_of H - 1)) (negsuc n) (λ z. wrapped H z ≡ max (half_of H) (range_of H - 1 - n))
    (λ e. omega (arith, ltb-true (half_of H - 1) n e)) (λ e. omega (arith, ltb-false (half_of H - 1) n e))
down S n = cond_both (nat_lt (half_of S - 1) n) (negsuc (half_of S - 1)) (negsuc n) (λ z. wrapped S z ≡ max (half_of S) (range_of S - 1 - n))
    (λ e. omega (arith, ltb-true (half_of S - 1) n e)) (λ e. omega (arith, ltb-false (half_of S - 1) n e))
down D n = cond_both (nat_lt (half_of D - 1) n) (negsuc (half_of D - 1)) (negsuc n) (λ z. wrapped D z ≡ max (half_of D) (range_of D - 1 - n))
    (λ e. omega (arith, ltb-true (half_of D - 1) n e)) (λ e. omega (arith, ltb-false (half_of D - 1) n e))

low : (size : Size) (x : ℕ) → x < half_of size → signed_of size x ≡ pos x
unfolding signed_of
low size x l = cond-true _ _ _ (lt-ltb x (half_of size) l)

high : (size : Size) (x : ℕ) → half_of size ≤ x → x < range_of size → signed_of size x ≡ negsuc (range_of size - x - 1)
unfolding signed_of
high size x g p = cond-false _ _ _ (le-ltb x (half_of size) g) ∙ pos_sub-lt x (range_of size) p

lesser : (s m : ℕ) → cond (nat_lt s m) s m ≡ min s m
lesser s m = cond_both (nat_lt s m) s m (λ t. t ≡ min s m) (λ e. omega (arith, ltb-true s m e)) (λ e. omega (arith, ltb-false s m e))

greater : (s m : ℕ) → cond (nat_lt s m) m s ≡ max m s
greater s m = cond_both (nat_lt s m) m s (λ t. t ≡ max m s) (λ e. omega (arith, ltb-true s m e)) (λ e. omega (arith, ltb-false s m e))

-- the four ways of two tests
of_signs : {A : Type 0} (h x y : ℕ) (k l m n r : A) → (h ≤ x → h ≤ y → k ≡ r) → (h ≤ x → y < h → l ≡ r) → (x < h → h ≤ y → m ≡ r)
    → (x < h → y < h → n ≡ r) → cond (nat_le h x) (cond (nat_le h y) k l) (cond (nat_le h y) m n) ≡ r
of_signs h x y k l m n r both first second none = elim (cases_lt x h) [
  | inl xl ↦ cond-false (nat_le h x) _ _ (lt-leb h x xl) ∙ elim (cases_lt y h) [
    | inl yl ↦ cond-false (nat_le h y) m n (lt-leb h y yl) ∙ none xl yl
    | inr yg ↦ cond-true (nat_le h y) m n (le-leb h y yg) ∙ second xl yg
  ]
  | inr xg ↦ cond-true (nat_le h x) _ _ (le-leb h x xg) ∙ elim (cases_lt y h) [
    | inl yl ↦ cond-false (nat_le h y) k l (lt-leb h y yl) ∙ first xg yl
    | inr yg ↦ cond-true (nat_le h y) k l (le-leb h y yg) ∙ both xg yg
  ]
]

-- a number from 0 on and one below 0
mixed_up : (r x y : ℕ) → y < r → r ≤ x + y → pos x +ℤ negsuc (r - y - 1) ≡ pos (x + y - r)
mixed_up r x y q g = grind (arith, ints)

mixed_down : (r x y : ℕ) → y < r → x + y < r → pos x +ℤ negsuc (r - y - 1) ≡ negsuc (r - (x + y) - 1)
mixed_down r x y q l = grind (arith, ints)

mixed : (size : Size) (x y : ℕ) → x < half_of size → half_of size ≤ y → y < range_of size
    → (x + y) % range_of size ≡ wrapped size (signed_saturated size (pos x +ℤ negsuc (range_of size - y - 1)))
mixed size x y l g q =
    let e = halves size in
    let f = some size in
    elim (cases_lt (x + y) (range_of size)) [
      | inl under ↦
          let v : x + y ≡ max (half_of size) (range_of size - 1 - (range_of size - (x + y) - 1)) = omega arith in
          once size (x + y) under ∙ v ∙ sym (down size _)
          ∙ sym (ap (λ z. wrapped size (signed_saturated size z)) (mixed_down (range_of size) x y q under))
      | inr over ↦
          let v : x + y - range_of size ≡ min (x + y - range_of size) (half_of size - 1) = omega arith in
          twice size (x + y) over (omega arith) ∙ v ∙ sym (up size _)
          ∙ sym (ap (λ z. wrapped size (signed_saturated size z)) (mixed_up (range_of size) x y q over))
    ]

sum_lane : (size : Size) (x y : ℕ) → x < range_of size → y < range_of size
    → cond (nat_le (half_of size) x)
    (cond (nat_le (half_of size) y) (cond (nat_lt (sum_of size x y) (half_of size)) (half_of size) (sum_of size x y)) (sum_of size x y))
    (cond (nat_le (half_of size) y) (sum_of size x y) (cond (nat_lt (sum_of size x y) (half_of size - 1)) (sum_of size x y) (half_of size - 1)))
    ≡ arithmetic_of Sqadd size x y
unfolding arithmetic_of
sum_lane size x y p q =
    let e = halves size in
    let f = some size in
    let value = λ (k l : ℤ). wrapped size (signed_saturated size (k +ℤ l)) in
    of_signs (half_of size) x y _ _ _ _ _
    (λ xg yg.
    let v : x + y - range_of size ≡ range_of size - 1 - suc (range_of size - x - 1 + (range_of size - y - 1)) = omega arith in
    greater _ _ ∙ ap (max (half_of size)) (twice size (x + y) (omega arith) (omega arith) ∙ v) ∙ sym (down size _)
    ∙ sym (ap₂ value (high size x xg p) (high size y yg q)))
    (λ xg yl.
    let s : (x + y) % range_of size ≡ (y + x) % range_of size = ap (λ n. n % range_of size) (omega arith) in
    s ∙ mixed size y x yl xg p ∙ sym (ap₂ value (high size x xg p) (low size y yl)))
    (λ xl yg. mixed size x y xl yg q ∙ sym (ap₂ value (low size x xl) (high size y yg q)))
    (λ xl yl.
    lesser _ _ ∙ ap (λ s. min s (half_of size - 1)) (once size (x + y) (omega arith)) ∙ sym (up size _)
    ∙ sym (ap₂ value (low size x xl) (low size y yl)))

-- two numbers whose difference is never saturated
near : (size : Size) (x y : ℕ) (z : ℤ) → x < range_of size → y < range_of size → x < y + half_of size → y ≤ x + half_of size
    → (y ≤ x → z ≡ pos (x - y)) → (x < y → z ≡ negsuc (y - x - 1))
    → difference_of size x y ≡ wrapped size (signed_saturated size z)
near size x y z p q k l is_up is_down =
    let e = halves size in
    let f = some size in
    elim (cases_lt x y) [
      | inl under ↦
          let v : x + (range_of size - y) ≡ max (half_of size) (range_of size - 1 - (y - x - 1)) = omega arith in
          once size _ (omega arith) ∙ v ∙ sym (down size _) ∙ sym (ap (λ z. wrapped size (signed_saturated size z)) (is_down under))
      | inr over ↦
          let v : x + (range_of size - y) - range_of size ≡ min (x - y) (half_of size - 1) = omega arith in
          twice size _ (omega arith) (omega arith) ∙ v ∙ sym (up size _)
          ∙ sym (ap (λ z. wrapped size (signed_saturated size z)) (is_up over))
    ]

less_negative : (r x y : ℕ) → x < r → negsuc (r - x - 1) -ℤ pos y ≡ negsuc (r - x - 1 + y)
less_negative r x y p = grind (arith, ints)

negative_up : (r x y : ℕ) → x < r → y ≤ x → negsuc (r - x - 1) -ℤ negsuc (r - y - 1) ≡ pos (x - y)
negative_up r x y p g = grind (arith, ints)

negative_down : (r x y : ℕ) → y < r → x < y → negsuc (r - x - 1) -ℤ negsuc (r - y - 1) ≡ negsuc (y - x - 1)
negative_down r x y q l = grind (arith, ints)

difference_lane : (size : Size) (x y : ℕ) → x < range_of size → y < range_of size
    → cond (nat_le (half_of size) x)
    (cond (nat_le (half_of size) y) (difference_of size x y)
    (cond (nat_lt (difference_of size x y) (half_of size)) (half_of size) (difference_of size x y)))
    (cond (nat_le (half_of size) y) (cond (nat_lt (difference_of size x y) (half_of size - 1)) (difference_of size x y) (half_of size - 1))
    (difference_of size x y))
    ≡ arithmetic_of Sqsub size x y
unfolding arithmetic_of
difference_lane size x y p q =
    let e = halves size in
    let f = some size in
    let value = λ (k l : ℤ). wrapped size (signed_saturated size (k -ℤ l)) in
    of_signs (half_of size) x y _ _ _ _ _
    (λ xg yg.
    near size x y _ p q (omega arith) (omega arith) (negative_up (range_of size) x y p) (negative_down (range_of size) x y q)
    ∙ sym (ap₂ value (high size x xg p) (high size y yg q)))
    (λ xg yl.
    let v : x + (range_of size - y) - range_of size ≡ range_of size - 1 - (range_of size - x - 1 + y) = omega arith in
    greater _ _ ∙ ap (max (half_of size)) (twice size _ (omega arith) (omega arith) ∙ v) ∙ sym (down size _)
    ∙ sym (ap (λ z. wrapped size (signed_saturated size z)) (less_negative (range_of size) x y p))
    ∙ sym (ap₂ value (high size x xg p) (low size y yl)))
    (λ xl yg.
    let v : x + (range_of size - y) ≡ x + suc (range_of size - y - 1) = omega arith in
    lesser _ _ ∙ ap (λ s. min s (half_of size - 1)) (once size _ (omega arith) ∙ v) ∙ sym (up size _)
    ∙ sym (ap₂ value (low size x xl) (high size y yg q)))
    (λ xl yl.
    near size x y _ p q (omega arith) (omega arith) (pos_sub-le x y) (pos_sub-lt x y) ∙ sym (ap₂ value (low size x xl) (low size y yl)))

sums : (size : Size) (n : ℕ) (a b : List ℕ) → length a ≡ n → Each1 (λ x. x < range_of size) a → Each1 (λ x. x < range_of size) b
    → sel_l (zip2 nat_le (replicate n (half_of size)) a)
    (sel_l (zip2 nat_le (replicate n (half_of size)) b)
    (sel_l (zip2 nat_lt (zip2 (sum_of size) a b) (replicate n (half_of size))) (replicate n (half_of size)) (zip2 (sum_of size) a b))
    (zip2 (sum_of size) a b))
    (sel_l (zip2 nat_le (replicate n (half_of size)) b) (zip2 (sum_of size) a b)
    (sel_l (zip2 nat_lt (zip2 (sum_of size) a b) (replicate n (half_of size - 1))) (zip2 (sum_of size) a b) (replicate n (half_of size - 1))))
    ≡ zip2 (arithmetic_of Sqadd size) a b
sums size zero [] b long p q = refl
sums size (suc n) [] b long p q = absurd (omega arith)
sums size zero (x ∷ a) b long p q = absurd (omega arith)
sums size (suc n) (x ∷ a) [] long p q = refl
sums size (suc n) (x ∷ a) (y ∷ b) long p q = ap₂ (λ t ts. t ∷ ts) (sum_lane size x y p.0 q.0) (sums size n a b (omega arith) p.1 q.1)

differences : (size : Size) (n : ℕ) (a b : List ℕ) → length a ≡ n → Each1 (λ x. x < range_of size) a → Each1 (λ x. x < range_of size) b
    → sel_l (zip2 nat_le (replicate n (half_of size)) a)
    (sel_l (zip2 nat_le (replicate n (half_of size)) b) (zip2 (difference_of size) a b)
    (sel_l (zip2 nat_lt (zip2 (difference_of size) a b) (replicate n (half_of size))) (replicate n (half_of size)) (zip2 (difference_of size) a b)))
    (sel_l (zip2 nat_le (replicate n (half_of size)) b)
    (sel_l (zip2 nat_lt (zip2 (difference_of size) a b) (replicate n (half_of size - 1))) (zip2 (difference_of size) a b) (replicate n (half_of size - 1)))
    (zip2 (difference_of size) a b))
    ≡ zip2 (arithmetic_of Sqsub size) a b
differences size zero [] b long p q = refl
differences size (suc n) [] b long p q = absurd (omega arith)
differences size zero (x ∷ a) b long p q = absurd (omega arith)
differences size (suc n) (x ∷ a) [] long p q = refl
differences size (suc n) (x ∷ a) (y ∷ b) long p q =
    ap₂ (λ t ts. t ∷ ts) (difference_lane size x y p.0 q.0) (differences size n a b (omega arith) p.1 q.1)

-- the same with any lists of these tests
pub signed_sums : (size : Size) (n : ℕ) (a b : List ℕ) {t u under over : List Bool} → length a ≡ n
    → Each1 (λ x. x < range_of size) a → Each1 (λ x. x < range_of size) b
    → t ≡ zip2 nat_le (replicate n (half_of size)) a → u ≡ zip2 nat_le (replicate n (half_of size)) b
    → under ≡ zip2 nat_lt (zip2 (sum_of size) a b) (replicate n (half_of size))
    → over ≡ zip2 nat_lt (zip2 (sum_of size) a b) (replicate n (half_of size - 1))
    → sel_l t (sel_l u (sel_l under (replicate n (half_of size)) (zip2 (sum_of size) a b)) (zip2 (sum_of size) a b))
    (sel_l u (zip2 (sum_of size) a b) (sel_l over (zip2 (sum_of size) a b) (replicate n (half_of size - 1))))
    ≡ zip2 (arithmetic_of Sqadd size) a b
signed_sums size n a b long p q e f g h = cc (sums size n a b long p q)

pub signed_differences : (size : Size) (n : ℕ) (a b : List ℕ) {t u under over : List Bool} → length a ≡ n
    → Each1 (λ x. x < range_of size) a → Each1 (λ x. x < range_of size) b
    → t ≡ zip2 nat_le (replicate n (half_of size)) a → u ≡ zip2 nat_le (replicate n (half_of size)) b
    → under ≡ zip2 nat_lt (zip2 (difference_of size) a b) (replicate n (half_of size))
    → over ≡ zip2 nat_lt (zip2 (difference_of size) a b) (replicate n (half_of size - 1))
    → sel_l t (sel_l u (zip2 (difference_of size) a b) (sel_l under (replicate n (half_of size)) (zip2 (difference_of size) a b)))
    (sel_l u (sel_l over (zip2 (difference_of size) a b) (replicate n (half_of size - 1))) (zip2 (difference_of size) a b))
    ≡ zip2 (arithmetic_of Sqsub size) a b
signed_differences size n a b long p q e f g h = cc (differences size n a b long p q)
