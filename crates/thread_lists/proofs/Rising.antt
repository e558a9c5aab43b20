-- Numbers that rise, each of some once, are those from the first on.
use Rattle.std.proofs.Common.{◌≡◌, ℕ, zero, suc, ◌+◌, ◌<◌, ◌≤◌, List, [], ◌∷◌, map, length, get_or}
use Rattle.std.proofs.Common.{refl, sym, ap, ◌∙◌, subst, arith}
use Rattle.std.specs.Prelude.{IsPermutation, sum_by}
use Rattle.std.specs.List.{range_with_len}
use Rattle.std.specs.List.Sorted.{IsNonDecreasingBy}
use Rattle.std.proofs.lemmas.List.{length-map}
use Rattle.std.proofs.lemmas.List.Sorted.{IsPermutation-map, sum_by-IsPermutation}
use Rattle.std.proofs.lemmas.List.Sums.{sum_by-cons}
use native.Mathlib.Decide.{ℕ_discrete, dec_lt}
use Rattle.thread_lists.specs.Counts.{occurrences, once_below, AreOnceEach}
use Rattle.thread_lists.proofs.Sums.{mark, mark_same, mark_other, once_in, once_out}

-- ---- another order

occurrences-sum_by : (t : ℕ) (xs : List ℕ) → occurrences t xs ≡ sum_by (mark t) xs
occurrences-sum_by t [] = refl
occurrences-sum_by t (x ∷ xs) = let rest = occurrences-sum_by t xs in omega (arith, rest, sum_by-cons (mark t) x xs)

occurrences-IsPermutation : (t : ℕ) (xs ys : List ℕ) → IsPermutation xs ys → occurrences t ys ≡ occurrences t xs
occurrences-IsPermutation t xs ys h =
    occurrences-sum_by t ys ∙ sum_by-IsPermutation (mark t) xs ys h ∙ sym (occurrences-sum_by t xs)

-- ---- numbers that rise

-- a number that is lower than all others
none_above : (t : ℕ) (xs : List ℕ) → ((k d : ℕ) → k < length xs → t < get_or xs k d) → occurrences t xs ≡ 0
none_above t [] above = refl
none_above t (x ∷ xs) above =
    let here = above 0 0 (omega arith) in
    let rest = none_above t xs (λ k d lt. above (suc k) d (omega arith)) in
    omega (arith, rest, mark_other t x (λ e. omega arith))

-- each of the n numbers from a on is once in a list, and no other is
record AreFrom (a n : ℕ) (xs : List ℕ) : Type 0 where
  inside : (t : ℕ) → a ≤ t → t < a + n → occurrences t xs ≡ 1
  below : (t : ℕ) → t < a → occurrences t xs ≡ 0
  above : (t : ℕ) → a + n ≤ t → occurrences t xs ≡ 0

abbrev Rise : List ℕ → Type 0
Rise xs = (i j d : ℕ) → i ≤ j → j < length xs → get_or xs i d ≤ get_or xs j d

first_is : (a n x : ℕ) (xs : List ℕ) → AreFrom a (suc n) (x ∷ xs) → Rise (x ∷ xs) → x ≡ a
first_is a n x xs h up = go (dec_lt x a) (dec_lt a x)
  where
    go : Dec (x < a) → Dec (a < x) → x ≡ a
    go (yes lt) more = let none = h.below x lt in absurd (omega (arith, none, mark_same x x refl))
    go (no ge) (yes lt) =
        let one = h.inside a (omega arith) (omega arith) in
        let none = none_above a (x ∷ xs) (λ k d l. let first = up 0 k d (omega arith) l in omega arith) in
        absurd (omega arith)
    go (no ge) (no le) = omega arith

rest_are : (a n : ℕ) (xs : List ℕ) → AreFrom a (suc n) (a ∷ xs) → AreFrom (a + 1) n xs
rest_are a n xs h = record {
  inside = λ t low high.
      let one = h.inside t (omega arith) (omega arith) in omega (arith, one, mark_other t a (λ e. omega arith));
  below = λ t low. under t low (ℕ_discrete a t);
  above = λ t high. let none = h.above t (omega arith) in omega arith;
}
  where
    under : (t : ℕ) → t < a + 1 → Dec (a ≡ t) → occurrences t xs ≡ 0
    under t low (yes is) =
        let one = h.inside t (omega arith) (omega arith) in omega (arith, one, mark_same t a is)
    under t low (no ne) = let none = h.below t (omega arith) in omega arith

rising : (a n : ℕ) (xs : List ℕ) → AreFrom a n xs → Rise xs → xs ≡ range_with_len a n
rising a zero [] h up = refl
rising a zero (x ∷ xs) h up = absurd (go (dec_lt x a))
  where
    go : Dec (x < a) → ⊥
    go (yes lt) = let none = h.below x lt in omega (arith, none, mark_same x x refl)
    go (no ge) = let none = h.above x (omega arith) in omega (arith, none, mark_same x x refl)
rising a (suc n) [] h up = let one = h.inside a (omega arith) (omega arith) in absurd (omega arith)
rising a (suc n) (x ∷ xs) h up =
    let first = first_is a n x xs h up in
    let rest = rising (a + 1) n xs (rest_are a n xs (subst (λ y. AreFrom a (suc n) (y ∷ xs)) first h))
    (λ i j d le lt. up (suc i) (suc j) d (omega arith) (omega arith)) in
    ap (λ y. y ∷ xs) first ∙ ap (λ l. a ∷ l) rest

get_or-map : {X : Type 0} (f : X → ℕ) (xs : List X) (k d : ℕ) (x : X) → k < length (map f xs)
    → get_or (map f xs) k d ≡ f (get_or xs k x)
get_or-map f [] k d x lt = absurd (omega arith)
get_or-map f (y ∷ ys) zero d x lt = refl
get_or-map f (y ∷ ys) (suc k) d x lt = get_or-map f ys k d x (omega arith)

risen : {X : Type 0} (f : X → ℕ) (xs : List X) → IsNonDecreasingBy f xs → Rise (map f xs)
risen f [] h i j d le lt = absurd (omega arith)
risen f (x ∷ xs) h i j d le lt =
    let low = get_or-map f (x ∷ xs) i d x (omega arith) in
    let high = get_or-map f (x ∷ xs) j d x lt in
    let up = h i j x le (omega (arith, length-map (x ∷ xs) f)) in
    omega arith

-- each of so many numbers once, in another order that rises
pub sorted_numbers : {X : Type 0} (number : X → ℕ) (old new : List X) → IsPermutation old new → IsNonDecreasingBy number new
    → (bound : ℕ) → AreOnceEach bound (map number old) → map number new ≡ range_with_len 0 bound
sorted_numbers {X = X} number old new same up bound once = rising 0 bound (map number new) from (risen number new up)
  where
    count : (t : ℕ) → occurrences t (map number new) ≡ once_below t bound
    count t =
        occurrences-IsPermutation t (map number old) (map number new) (IsPermutation-map number old new same) ∙ once t

    from : AreFrom 0 bound (map number new)
    from = record {
      inside = λ t low high. count t ∙ once_in t bound (omega arith);
      below = λ t low. absurd (omega arith);
      above = λ t high. count t ∙ once_out t bound (omega arith);
    }
