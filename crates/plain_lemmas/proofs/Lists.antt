-- Lists that begin alike, elements that pass a test, and parts of lists.
use Rattle.std.proofs.Common.{◌≡◌, ℕ, zero, suc, ◌+◌, ◌<◌, ◌≤◌, ◌&&◌, Bool, true, false, cond, List, [], ◌∷◌, ◌++◌, length, map, take, drop}
use Rattle.std.proofs.Common.{get_or, slice_get, Option, Some, None, find, bytes_eq, refl, sym, ap, ap₂, subst, ◌∙◌, arith, append-nil}
use Rattle.std.proofs.lemmas.Bool.{and_parts}
use Rattle.std.proofs.lemmas.Grind.{common_steps}
use Rattle.std.proofs.lemmas.Option.{none-some, same_Some, slice_get-get_or}
use Rattle.std.proofs.lemmas.Slice.Eq.{bytes_eq-Decides}
use Rattle.std.specs.List.{list_all}

-- ---- lists that are one

pub cons_inj : {A : Type 0} {x y : A} {xs ys : List A} → x ∷ xs ≡ y ∷ ys → (x ≡ y) × (xs ≡ ys)
cons_inj e = (cc, cc)

pub cons_inj_left : {A : Type 0} (x y : A) (xs ys : List A) → x ∷ xs ≡ y ∷ ys → x ≡ y
cons_inj_left x y xs ys e = cc

pub append_inj : {A : Type 0} (v w more rest : List A) → length v ≡ length w → v ++ more ≡ w ++ rest → (v ≡ w) × (more ≡ rest)
append_inj [] [] more rest l e = (refl, e)
append_inj [] (y ∷ ys) more rest l e = absurd (omega (arith, l))
append_inj (x ∷ xs) [] more rest l e = absurd (omega (arith, l))
append_inj (x ∷ xs) (y ∷ ys) more rest l e =
    let first : x ≡ y = cc in
    let others : xs ++ more ≡ ys ++ rest = cc in
    let long : length xs ≡ length ys = omega (arith, l) in
    let parts = append_inj xs ys more rest long others in
    (ap₂ (λ h t. h ∷ t) first parts.0, parts.1)

pub append_inj_left : {A : Type 0} (v w more rest : List A) → length v ≡ length w → v ++ more ≡ w ++ rest → v ≡ w
append_inj_left v w more rest l e = (append_inj v w more rest l e).0

pub append_none : {A : Type 0} (old new made : List A) → new ≡ old ++ made → made ≡ [] → new ≡ old
append_none old new made grows none = grows ∙ ap (λ (l : List _). old ++ l) none ∙ append-nil old

pub bytes_eq-true : (a b : List ℕ) → bytes_eq a b ≡ true → a ≡ b
bytes_eq-true a b e = (bytes_eq-Decides a b).0 e

pub bytes_eq-self : (a : List ℕ) → bytes_eq a a ≡ true
bytes_eq-self a = (bytes_eq-Decides a a).1 refl

-- ---- elements that pass a test

pub list_all-get : {A : Type 0} (p : A → Bool) (xs : List A) (i : ℕ) (x : A) → list_all p xs ≡ true → slice_get xs i ≡ Some x → p x ≡ true
list_all-get p [] i x e g = cc
list_all-get p (y ∷ ys) zero x e g = let same : y ≡ x = cc in ap p (sym same) ∙ (and_parts (p y) (list_all p ys) e).0
list_all-get p (y ∷ ys) (suc i) x e g = list_all-get p ys i x (and_parts (p y) (list_all p ys) e).1 g

pub list_all-get_or : {A : Type 0} (p : A → Bool) (xs : List A) (i : ℕ) (d : A) → list_all p xs ≡ true → i < length xs
    → p (get_or xs i d) ≡ true
list_all-get_or p xs i d e lt = list_all-get p xs i (get_or xs i d) e (slice_get-get_or xs i d lt)

pub list_all-take : {A : Type 0} (p : A → Bool) (n : ℕ) (xs : List A) → list_all p xs ≡ true → list_all p (take n xs) ≡ true
list_all-take p zero xs e = refl
list_all-take p (suc n) [] e = refl
list_all-take p (suc n) (x ∷ xs) e =
    let parts = and_parts (p x) (list_all p xs) e in ap₂ (λ a b. a && b) parts.0 (list_all-take p n xs parts.1)

pub list_all-drop : {A : Type 0} (p : A → Bool) (n : ℕ) (xs : List A) → list_all p xs ≡ true → list_all p (drop n xs) ≡ true
list_all-drop p zero xs e = e
list_all-drop p (suc n) [] e = refl
list_all-drop p (suc n) (x ∷ xs) e = list_all-drop p n xs (and_parts (p x) (list_all p xs) e).1

pub find-passes : {A : Type 0} (p : A → Bool) (xs : List A) (x : A) → find p xs ≡ Some x → p x ≡ true
find-passes p [] x e = cc
find-passes p (y ∷ ys) x e = elim (p y) as (λ b. p y ≡ b → cond b (Some y) (find p ys) ≡ Some x → p x ≡ true) [
  | true ↦ λ is h. ap p (sym (same_Some y x h)) ∙ is
  | false ↦ λ is h. find-passes p ys x h
] refl e

-- ---- parts of a list

pub slice_get-found : {A : Type 0} (xs : List A) (i : ℕ) (x : A) → i < length xs → x ≡ get_or xs i x → slice_get xs i ≡ Some x
slice_get-found xs i x lt e = slice_get-get_or xs i x lt ∙ ap Some (sym e)

pub slice_get-mid : {A : Type 0} (front rest : List A) (x : A) → slice_get (front ++ x ∷ rest) (length front) ≡ Some x
slice_get-mid [] rest x = refl
slice_get-mid (y ∷ ys) rest x = slice_get-mid ys rest x

pub slice_get-take : {A : Type 0} (n i : ℕ) (xs : List A) → i < n → slice_get (take n xs) i ≡ slice_get xs i
slice_get-take zero i xs lt = absurd (omega arith)
slice_get-take (suc n) i [] lt = refl
slice_get-take (suc n) zero (x ∷ xs) lt = refl
slice_get-take (suc n) (suc i) (x ∷ xs) lt = slice_get-take n i xs (omega arith)

pub slice_get_from_map : {A B : Type 0} (f : A → B) (xs : List A) (i : ℕ) (y : B) → slice_get (map f xs) i ≡ Some y
    → (x : A) × (slice_get xs i ≡ Some x) × (f x ≡ y)
slice_get_from_map f [] i y get = absurd (none-some y get)
slice_get_from_map f (x ∷ xs) zero y get = (x, refl, same_Some (f x) y get)
slice_get_from_map f (x ∷ xs) (suc i) y get = slice_get_from_map f xs i y get

pub take-suc_at : {A : Type 0} (xs : List A) (i : ℕ) (x : A) → slice_get xs i ≡ Some x → take (suc i) xs ≡ take i xs ++ x ∷ []
take-suc_at [] i x at = absurd (none-some x at)
take-suc_at (y ∷ ys) zero x at = ap (λ z. z ∷ []) (same_Some y x at)
take-suc_at (y ∷ ys) (suc i) x at = ap (λ zs. y ∷ zs) (take-suc_at ys i x at)

pub take_length : {A : Type 0} (xs ys : List A) → take (length xs) (xs ++ ys) ≡ xs
take_length xs ys = grind (arith, common_steps)

pub take_within : {A : Type 0} (e at : ℕ) (xs ys : List A) → at + e ≤ length xs → take e (drop at (xs ++ ys)) ≡ take e (drop at xs)
take_within e at xs ys room = grind (arith, common_steps)

pub drop_past : {A : Type 0} (xs ys : List A) (k : ℕ) → drop (length xs + k) (xs ++ ys) ≡ drop k ys
drop_past [] ys k = let e : 0 + k ≡ k = omega arith in rw e refl
drop_past (x ∷ xs) ys k = let e : suc (length xs) + k ≡ suc (length xs + k) = omega arith in rw e (drop_past xs ys k)

pub drop_twice : {A : Type 0} (xs : List A) (n m k : ℕ) → k ≡ n + m → drop m (drop n xs) ≡ drop k xs
drop_twice xs n m k e = grind (arith, common_steps)
