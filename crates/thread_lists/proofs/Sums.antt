-- Occurrences in lists, and sums over passes.
use Rattle.std.proofs.Common.{◌≡◌, ◌≢◌, ◌⊎◌, ℕ, zero, suc, ◌+◌, ◌<◌, ◌≤◌, Bool, cond, eqb, List, [], ◌∷◌, ◌++◌, length}
use Rattle.std.proofs.Common.{set, refl, sym, ap, ◌∙◌, subst, inl, inr, eq-eqb, ne_eqb, arith}
use Rattle.std.specs.List.{range_with_len}
use Rattle.std.proofs.lemmas.Bool.{lt-ltb, le-ltb}
use mathlib.Core.Option.{some, some-injective, some-ne-none}
use mathlib.Core.Logic.{dite}
use native.Mathlib.Decide.{ℕ_discrete, dec_lt}
use lib.ListN.{get_elem?}
use Rattle.thread_lists.specs.Counts.{total, occurrences, once_below, without}

-- ---- one item

abbrev pub mark : ℕ → ℕ → ℕ
mark t x = cond (eqb x t) 1 0

pub mark_same : (t x : ℕ) → x ≡ t → mark t x ≡ 1
mark_same t x e = ap (λ b. cond b 1 0) (eq-eqb x t e)

pub mark_other : (t x : ℕ) → x ≢ t → mark t x ≡ 0
mark_other t x ne = ap (λ b. cond b 1 0) (ne_eqb x t ne)

pub once_in : (t n : ℕ) → t < n → once_below t n ≡ 1
once_in t n lt = ap (λ b. cond b 1 0) (lt-ltb t n lt)

pub once_out : (t n : ℕ) → n ≤ t → once_below t n ≡ 0
once_out t n le = ap (λ b. cond b 1 0) (le-ltb t n le)

-- ---- occurrences

pub occurrences-append : (t : ℕ) (xs ys : List ℕ) → occurrences t (xs ++ ys) ≡ occurrences t xs + occurrences t ys
occurrences-append t [] ys = omega arith
occurrences-append t (x ∷ xs) ys = let rest = occurrences-append t xs ys in omega arith

pub occurrences-without : (t y : ℕ) (xs : List ℕ) → 0 < occurrences y xs
    → occurrences t (without y xs) + mark t y ≡ occurrences t xs
occurrences-without t y [] some_there = absurd (omega arith)
occurrences-without t y (x ∷ xs) some_there =
    let here = λ (b : Bool). occurrences t (cond b xs (x ∷ without y xs)) + mark t y in
    dite (ℕ_discrete x y)
    (λ (is : x ≡ y). ap here (eq-eqb x y is) ∙ (ap (λ k. occurrences t xs + mark t k) (sym is) ∙ omega arith))
    (λ (ne : x ≢ y).
    let rest = occurrences-without t y xs (omega (arith, mark_other y x ne)) in
    ap here (ne_eqb x y ne) ∙ omega (arith, rest))

range-outside : (t a n : ℕ) → (t < a) ⊎ (a + n ≤ t) → occurrences t (range_with_len a n) ≡ 0
range-outside t a zero out = refl
range-outside t a (suc n) (inl lt) =
    let rest = range-outside t (a + 1) n (inl (omega arith)) in
    omega (arith, rest, mark_other t a (λ e. omega arith))
range-outside t a (suc n) (inr le) =
    let rest = range-outside t (a + 1) n (inr (omega arith)) in
    omega (arith, rest, mark_other t a (λ e. omega arith))

range-inside : (t a n : ℕ) → a ≤ t → t < a + n → occurrences t (range_with_len a n) ≡ 1
range-inside t a zero low high = absurd (omega arith)
range-inside t a (suc n) low high = dite (ℕ_discrete a t)
    (λ (is : a ≡ t).
    let rest = range-outside t (a + 1) n (inl (omega arith)) in omega (arith, rest, mark_same t a is))
    (λ (ne : a ≢ t).
    let rest = range-inside t (a + 1) n (omega arith) (omega arith) in omega (arith, rest, mark_other t a ne))

-- the numbers from 0 on are once each
pub range-once : (t n : ℕ) → occurrences t (range_with_len 0 n) ≡ once_below t n
range-once t n = go (dec_lt t n)
  where
    go : Dec (t < n) → occurrences t (range_with_len 0 n) ≡ once_below t n
    go (yes lt) = range-inside t 0 n (omega arith) (omega arith) ∙ sym (once_in t n lt)
    go (no ge) = range-outside t 0 n (inr (omega arith)) ∙ sym (once_out t n (omega arith))

-- ---- sums over a list

module _ {A : Type 0} (f : A → ℕ) where
  pub total-set : (xs : List A) (i : ℕ) (x y : A) → get_elem? xs i ≡ some x → total f (set xs i y) + f x ≡ total f xs + f y
  total-set [] i x y at = absurd (some-ne-none x (sym at))
  total-set (z ∷ xs) zero x y at = let same : f z ≡ f x = ap f (some-injective z x at) in omega arith
  total-set (z ∷ xs) (suc i) x y at = let rest = total-set xs i x y at in omega arith

  pub total-append : (xs ys : List A) → total f (xs ++ ys) ≡ total f xs + total f ys
  total-append [] ys = omega arith
  total-append (x ∷ xs) ys = let rest = total-append xs ys in omega arith

  pub total-push : (xs : List A) (y : A) → total f (xs ++ y ∷ []) ≡ total f xs + f y
  total-push xs y = let parts = total-append xs (y ∷ []) in omega arith

  pub le-total : (xs : List A) (i : ℕ) (x : A) → get_elem? xs i ≡ some x → f x ≤ total f xs
  le-total [] i x at = absurd (some-ne-none x (sym at))
  le-total (z ∷ xs) zero x at = let same : f z ≡ f x = ap f (some-injective z x at) in omega arith
  le-total (z ∷ xs) (suc i) x at = let rest = le-total xs i x at in omega arith

  total-none : (xs : List A) → ((j : ℕ) (u : A) → get_elem? xs j ≡ some u → f u ≡ 0) → total f xs ≡ 0
  total-none [] none = refl
  total-none (z ∷ xs) none =
      let here = none 0 z refl in
      let rest = total-none xs (λ j u at. none (suc j) u at) in
      omega arith

  -- one item alone has any
  pub total-one : (xs : List A) (i : ℕ) (x : A) → get_elem? xs i ≡ some x
      → ((j : ℕ) (u : A) → j ≢ i → get_elem? xs j ≡ some u → f u ≡ 0) → total f xs ≡ f x
  total-one [] i x at none = absurd (some-ne-none x (sym at))
  total-one (z ∷ xs) zero x at none =
      let same : f z ≡ f x = ap f (some-injective z x at) in
      let rest = total-none xs (λ j u there. none (suc j) u (λ e. omega arith) there) in
      omega arith
  total-one (z ∷ xs) (suc i) x at none =
      let here = none 0 z (λ e. omega arith) refl in
      let rest = total-one xs i x at (λ j u ne there. none (suc j) u (λ e. ne (omega arith)) there) in
      omega arith

-- ---- a list of different numbers below n, without one of them, is shorter than n

-- the values of a function at the numbers below n, added up
abbrev sum_below : ℕ → (ℕ → ℕ) → ℕ
sum_below zero f = 0
sum_below (suc n) f = sum_below n f + f n

sum-plus : (n : ℕ) (f g : ℕ → ℕ) → sum_below n (λ k. f k + g k) ≡ sum_below n f + sum_below n g
sum-plus zero f g = refl
sum-plus (suc n) f g = let rest = sum-plus n f g in omega arith

sum-zero : (n : ℕ) → sum_below n (λ k. 0) ≡ 0
sum-zero zero = refl
sum-zero (suc n) = let rest = sum-zero n in omega arith

sum-mark_out : (n x : ℕ) → n ≤ x → sum_below n (λ k. mark k x) ≡ 0
sum-mark_out zero x le = refl
sum-mark_out (suc n) x le =
    let rest = sum-mark_out n x (omega arith) in omega (arith, rest, mark_other n x (λ e. omega arith))

sum-mark : (n x : ℕ) → x < n → sum_below n (λ k. mark k x) ≡ 1
sum-mark zero x lt = absurd (omega arith)
sum-mark (suc n) x lt = dite (ℕ_discrete x n)
    (λ (is : x ≡ n). omega (arith, sum-mark_out n x (omega arith), mark_same n x is))
    (λ (ne : x ≢ n). let rest = sum-mark n x (omega arith) in omega (arith, rest, mark_other n x ne))

sum-most : (n : ℕ) (f : ℕ → ℕ) → ((k : ℕ) → f k ≤ 1) → sum_below n f ≤ n
sum-most zero f most = omega arith
sum-most (suc n) f most = let rest = sum-most n f most in let here = most n in omega arith

sum-fewer : (n t : ℕ) (f : ℕ → ℕ) → ((k : ℕ) → f k ≤ 1) → t < n → f t ≡ 0 → sum_below n f < n
sum-fewer zero t f most lt none = absurd (omega arith)
sum-fewer (suc n) t f most lt none = dite (ℕ_discrete t n)
    (λ (is : t ≡ n). let rest = sum-most n f most in let here : f n ≡ 0 = ap f (sym is) ∙ none in omega arith)
    (λ (ne : t ≢ n). let rest = sum-fewer n t f most (omega arith) none in let here = most n in omega arith)

length-sum : (n : ℕ) (xs : List ℕ) → ((k : ℕ) → n ≤ k → occurrences k xs ≡ 0)
    → length xs ≡ sum_below n (λ k. occurrences k xs)
length-sum n [] out = sym (sum-zero n)
length-sum n (x ∷ xs) out =
    let lt : x < n = go (dec_lt x n) in
    let rest = length-sum n xs (λ k le. let here = out k le in omega arith) in
    let parts = sum-plus n (λ k. mark k x) (λ k. occurrences k xs) in
    omega (arith, rest, parts, sum-mark n x lt)
  where
    go : Dec (x < n) → x < n
    go (yes lt) = lt
    go (no ge) = let here = out x (omega arith) in absurd (omega (arith, here, mark_same x x refl))

pub pigeons : (n t : ℕ) (xs : List ℕ) → ((k : ℕ) → occurrences k xs ≤ once_below k n) → t < n → occurrences t xs ≡ 0
    → length xs < n
pigeons n t xs most lt none =
    subst (λ l. l < n) (sym (length-sum n xs (λ k le. let here = most k in omega (arith, here, once_out k n le))))
    (sum-fewer n t (λ k. occurrences k xs) (λ k. small k (dec_lt k n)) lt none)
  where
    small : (k : ℕ) → Dec (k < n) → occurrences k xs ≤ 1
    small k (yes l) = let here = most k in omega (arith, here, once_in k n l)
    small k (no g) = let here = most k in omega (arith, here, once_out k n (omega arith))
