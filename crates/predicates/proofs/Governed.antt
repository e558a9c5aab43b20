-- The results of active elements, one element further.
use Rattle.std.proofs.Common.{◌≡◌, ℕ, ◌+◌, ◌*◌, ◌/◌, Bool, true, false, not, ◌&&◌, ◌||◌, if◌then◌else◌, List, [], ◌∷◌, ◌++◌, length, refl}
use Rattle.std.proofs.Common.{ap, ◌∙◌, sym, add-one, arith}
use Rattle.vector_elements.specs.Elements.{listed, is_active, active_of}
use Rattle.vector_elements.proofs.Lists.{length-listed}
use Rattle.predicates.specs.Flags.{governed, first_or, last_or, any_true, flags_of}

-- those of one element
abbrev pub one_of : Bool → Bool → List Bool
one_of on x = if on then x ∷ [] else []

governed-one : (xs ys : List Bool) (on x : Bool) → length xs ≡ length ys
    → governed (xs ++ on ∷ []) (ys ++ x ∷ []) ≡ governed xs ys ++ one_of on x
unfolding governed
governed-one [] [] true x e = refl
governed-one [] [] false x e = refl
governed-one [] (y ∷ ys) on x e = absurd (omega (arith, e))
governed-one (a ∷ xs) [] on x e = absurd (omega (arith, e))
governed-one (true ∷ xs) (y ∷ ys) on x e = ap (λ t. y ∷ t) (governed-one xs ys on x (omega (arith, e)))
governed-one (false ∷ xs) (y ∷ ys) on x e = governed-one xs ys on x (omega (arith, e))

-- there are some
abbrev pub some_of : List Bool → Bool
some_of [] = false
some_of (x ∷ xs) = true

-- what the loop knows of the results so far
pub record Tells (g : List Bool) (first seen any last : Bool) : Type 0 where
  pub first_is : first ≡ first_or false g
  pub seen_is : seen ≡ some_of g
  pub any_is : any ≡ any_true g
  pub last_is : last ≡ last_or false g

first-one : (g : List Bool) (on x : Bool) → (if some_of g then first_or false g else (on && x)) ≡ first_or false (g ++ one_of on x)
first-one [] true x = refl
first-one [] false x = refl
first-one (y ∷ g) on x = refl

some-one : (g : List Bool) (on x : Bool) → (some_of g || on) ≡ some_of (g ++ one_of on x)
some-one [] true x = refl
some-one [] false x = refl
some-one (y ∷ g) on x = refl

any-one : (g : List Bool) (on x : Bool) → (any_true g || (on && x)) ≡ any_true (g ++ one_of on x)
any-one [] true true = refl
any-one [] true false = refl
any-one [] false x = refl
any-one (true ∷ g) on x = refl
any-one (false ∷ g) on x = any-one g on x

last_or-one : (g : List Bool) (none on x : Bool) → (if on then x else last_or none g) ≡ last_or none (g ++ one_of on x)
last_or-one [] none true x = refl
last_or-one [] none false x = refl
last_or-one (y ∷ g) none on x = last_or-one g y on x

tells_next : (g : List Bool) (first seen any last on x : Bool) → Tells g first seen any last
    → Tells (g ++ one_of on x) (if seen then first else (on && x)) (seen || on) (any || (on && x)) (if on then x else last)
tells_next g first seen any last on x t = record {
  first_is = rw (t.first_is, t.seen_is) (first-one g on x);
  seen_is = rw (t.seen_is) (some-one g on x);
  any_is = rw (t.any_is) (any-one g on x);
  last_is = rw (t.last_is) (last_or-one g false on x);
}

-- the results of the first n elements
abbrev pub governed_to : ℕ → List ℕ → List ℕ → ℕ → List Bool
governed_to e mask results n = governed (listed (is_active e mask) n) (listed (is_active e results) n)

next_listed : (f : ℕ → Bool) (n : ℕ) → listed f (n + 1) ≡ listed f n ++ f n ∷ []
unfolding listed
next_listed f n = rw add-one refl

pub governed_to-next : (e : ℕ) (mask results : List ℕ) (n : ℕ)
    → governed_to e mask results (n + 1) ≡ governed_to e mask results n ++ one_of (is_active e mask n) (is_active e results n)
governed_to-next e mask results n =
    rw (next_listed (is_active e mask) n, next_listed (is_active e results) n)
    (governed-one (listed (is_active e mask) n) (listed (is_active e results) n) (is_active e mask n) (is_active e results n)
    (length-listed (is_active e mask) n ∙ sym (length-listed (is_active e results) n)))

pub tells_further : (e : ℕ) (mask results : List ℕ) (n : ℕ) (first seen any last on x : Bool)
    → Tells (governed_to e mask results n) first seen any last → on ≡ is_active e mask n → x ≡ is_active e results n
    → Tells (governed_to e mask results (n + 1)) (if seen then first else (on && x)) (seen || on) (any || (on && x))
    (if on then x else last)
tells_further e mask results n first seen any last on x t is_on is_x =
    rw (governed_to-next e mask results n, sym is_on, sym is_x) (tells_next (governed_to e mask results n) first seen any last on x t)

pub tells_none : (e : ℕ) (mask results : List ℕ) → Tells (governed_to e mask results 0) false false false false
unfolding listed governed
tells_none e mask results = record { first_is = refl; seen_is = refl; any_is = refl; last_is = refl }

pub flags_are : (e : ℕ) (mask results : List ℕ) (n : ℕ) (first seen any last : Bool)
    → length results ≡ length mask → n ≡ 8 * length mask / e → Tells (governed_to e mask results n) first seen any last
    → record { n = first; z = not any; c = not last; v = false } ≡ flags_of (active_of e mask) (active_of e results)
unfolding flags_of active_of governed
flags_are e mask results n first seen any last same is t =
    let m : n ≡ 8 * length results / e = is ∙ ap (λ k. 8 * k / e) (sym same) in
    rw (sym is, sym m, t.first_is, t.any_is, t.last_is) refl
