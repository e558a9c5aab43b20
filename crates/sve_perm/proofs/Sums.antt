-- Numbers of lists with one element more.
use Rattle.std.proofs.Common.{◌≡◌, ℕ, zero, suc, ◌+◌, ◌-◌, ◌*◌, ◌/◌, ◌%◌, ◌^◌, ◌<◌, ◌≤◌, Bool, true, false, if◌then◌else◌, List, [], ◌∷◌}
use Rattle.std.proofs.Common.{◌++◌}
use Rattle.std.proofs.Common.{map, replicate, bit_or, bit_xor, ap, ap₂, append-nil, ◌∙◌, sym, arith, refl, inl, inr}
use Rattle.std.specs.Prelude.{filter, fold, ℤ, pos, negsuc, ◌+ℤ◌}
use Rattle.std.specs.List.{range_with_len}
use Rattle.std.proofs.lemmas.Bool.{cases_lt}
use Rattle.std.proofs.lemmas.Int.{ints}
use Rattle.std.proofs.lemmas.List.{map-append}
use Rattle.std.proofs.lemmas.List.Elements.{filter-append}
use Rattle.std.proofs.lemmas.Grind.{fold-append}
use Rattle.std.proofs.lemmas.Nat.{or_lt, xor_lt}
use Rattle.std.specs.Simd.Lanes.{digits_l}
use Rattle.plain_lemmas.proofs.Numbers.{pos_add_negsuc-le, pos_add_negsuc-lt}
use Rattle.vector_elements.specs.declared.size.Size.{Size}
use Rattle.vector_elements.specs.declared.size.Size.TheVariants.{B, H, S, D}
use Rattle.vector_elements.specs.Elements.{element_of, is_active}
use Rattle.vector_elements.specs.Numbers.{bytes_in, range_of, signed_of, wrapped}
use Rattle.sm_types.specs.declared.vector.ReductionOp.TheVariants.{Saddv}
use Rattle.sve_perm.specs.Reduce.{reduction_of}
use Rattle.sve_perm.specs.Active.{active_places, active_elements, last_or}
use Rattle.sve_perm.specs.Permute.{count_of}

-- a fold with one element more
pub fold_one : {A B : Type 0} (f : B → A → B) (none : B) (xs : List A) (x : A) → fold f none (xs ++ x ∷ []) ≡ f (fold f none xs) x
fold_one f none xs x = fold-append f none xs (x ∷ [])

range-more : (a n : ℕ) → range_with_len a (n + 1) ≡ range_with_len a n ++ (a + n) ∷ []
range-more a zero = (let e : a + 0 ≡ a = omega arith in ap (λ k. k ∷ []) (sym e))
range-more a (suc n) =
    (let e : suc n + 1 ≡ suc (n + 1) = omega arith in ap (range_with_len a) e) ∙ ap (λ t. a ∷ t) (range-more (a + 1) n)
    ∙ (let e : a + 1 + n ≡ a + suc n = omega arith in ap (λ k. a ∷ (range_with_len (a + 1) n ++ k ∷ [])) e)

-- the place of an element, if it is active
abbrev pub place_where : Bool → ℕ → List ℕ
place_where on i = if on then i ∷ [] else []

pub places-more : (size : Size) (pg : List ℕ) (n : ℕ)
    → active_places size pg (n + 1) ≡ active_places size pg n ++ place_where (is_active (bytes_in size) pg n) n
unfolding active_places
places-more size pg n =
    let here : 0 + n ≡ n = omega arith in
    ap (filter (is_active (bytes_in size) pg)) (range-more 0 n ∙ ap (λ k. range_with_len 0 n ++ k ∷ []) here)
    ∙ filter-append (is_active (bytes_in size) pg) (range_with_len 0 n) (n ∷ [])

map-where : {A : Type 0} (f : ℕ → A) (on : Bool) (n : ℕ) → map f (place_where on n) ≡ (if on then f n ∷ [] else [])
map-where f true n = refl
map-where f false n = refl

-- of the active elements
pub elements-more : (size : Size) (pg bytes : List ℕ) (n x : ℕ) (on : Bool)
    → x ≡ element_of (bytes_in size) bytes n → on ≡ is_active (bytes_in size) pg n
    → map (element_of (bytes_in size) bytes) (active_places size pg n) ++ (if on then x ∷ [] else [])
    ≡ map (element_of (bytes_in size) bytes) (active_places size pg (n + 1))
elements-more size pg bytes n x on is active =
    let f = element_of (bytes_in size) bytes in
    sym (ap (map f) (places-more size pg n)
    ∙ map-append f (active_places size pg n) (place_where (is_active (bytes_in size) pg n) n)
    ∙ ap (λ t. map f (active_places size pg n) ++ t) (map-where f (is_active (bytes_in size) pg n) n)
    ∙ ap₂ (λ b y. map f (active_places size pg n) ++ (if b then y ∷ [] else [])) (sym active) (sym is))

-- after the last element they are all of them
pub all-joined : (size : Size) (pg bytes : List ℕ) (n : ℕ) → n ≡ count_of size bytes
    → map (element_of (bytes_in size) bytes) (active_places size pg n) ≡ active_elements size pg bytes
unfolding active_elements
all-joined size pg bytes n is = ap (λ k. map (element_of (bytes_in size) bytes) (active_places size pg k)) is

pub none-yet : (size : Size) (pg bytes : List ℕ) → map (element_of (bytes_in size) bytes) (active_places size pg 0) ≡ []
unfolding active_places
none-yet size pg bytes = refl

-- one of two numbers, each of which fits
pub chosen_fits : (test : Bool) (x y chosen n : ℕ) → chosen ≡ (if test then x else y) → x < n → y < n → chosen < n
chosen_fits true x y chosen n is first other = omega (arith, is, first)
chosen_fits false x y chosen n is first other = omega (arith, is, other)

-- an element that is not active is not joined
pub joined_where : (gives : List ℕ → ℕ) (xs : List ℕ) (active : Bool) (x joined total chosen : ℕ)
    → chosen ≡ (if active then joined else total) → total ≡ gives xs → joined ≡ gives (xs ++ x ∷ [])
    → chosen ≡ gives (xs ++ (if active then x ∷ [] else []))
joined_where gives xs true x joined total chosen is so_far more = is ∙ more
joined_where gives xs false x joined total chosen is so_far more = is ∙ so_far ∙ ap gives (sym (append-nil xs))

-- the last active place is the last that was looked at
pub last_found : (size : Size) (pg : List ℕ) (none k : ℕ) → is_active (bytes_in size) pg k ≡ true
    → last_or none (active_places size pg (k + 1)) ≡ k
last_found size pg none k on =
    ap (last_or none) (places-more size pg k ∙ ap (λ b. active_places size pg k ++ place_where b k) on)
    ∙ fold_one (λ before place. place) none (active_places size pg k) k

-- or it is before it
pub last_before : (size : Size) (pg : List ℕ) (none k : ℕ) → is_active (bytes_in size) pg k ≡ false
    → last_or none (active_places size pg (k + 1)) ≡ last_or none (active_places size pg k)
last_before size pg none k off =
    ap (last_or none)
    (places-more size pg k ∙ ap (λ b. active_places size pg k ++ place_where b k) off ∙ append-nil (active_places size pg k))

pub no_last : (size : Size) (pg : List ℕ) (none : ℕ) → last_or none (active_places size pg 0) ≡ none
unfolding active_places
no_last size pg none = refl

-- the place of an element among the bits of a predicate
pub place_fits : (size : Size) (k count n : ℕ) → k < count → bytes_in size * count ≤ n → bytes_in size * k < n
place_fits B k count n lt room = omega (arith, lt, room)
place_fits H k count n lt room = omega (arith, lt, room)
place_fits S k count n lt room = omega (arith, lt, room)
place_fits D k count n lt room = omega (arith, lt, room)

mixed : (a b : ℕ) → wrapped D (pos a +ℤ negsuc b) ≡ (a % 2 ^ 64 + (2 ^ 64 - 1 - b % 2 ^ 64)) % 2 ^ 64
unfolding wrapped
mixed a b = elim (cases_lt b a) [
  | inl lt ↦ ap (wrapped D) (pos_add_negsuc-lt a b lt) ∙ omega (arith, lt)
  | inr le ↦ ap (wrapped D) (pos_add_negsuc-le a b le) ∙ omega (arith, le)
]

-- a sum with signs, modulo 2 ^ 64
pub wrapped_sum : (a b : ℤ) → wrapped D (a +ℤ b) ≡ (wrapped D a + wrapped D b) % 2 ^ 64
unfolding wrapped
wrapped_sum (pos a) (pos b) = omega arith
wrapped_sum (pos a) (negsuc b) = mixed a b
wrapped_sum (negsuc a) (pos b) = (let e : negsuc a +ℤ pos b ≡ pos b +ℤ negsuc a = grind (arith, ints) in ap (wrapped D) e) ∙ mixed b a
    ∙ omega arith
wrapped_sum (negsuc a) (negsuc b) = omega arith

-- one element more
pub saddv_more : (size : Size) (xs : List ℕ) (x total y : ℕ) → total ≡ reduction_of Saddv size xs → y ≡ wrapped D (signed_of size x)
    → (total + y) % 2 ^ 64 ≡ reduction_of Saddv size (xs ++ x ∷ [])
unfolding reduction_of
saddv_more size xs x total y is value =
    ap₂ (λ a b. (a + b) % 2 ^ 64) is value
    ∙ sym (wrapped_sum (fold (λ t x. t +ℤ signed_of size x) (pos 0) xs) (signed_of size x))
    ∙ sym (ap (wrapped D) (fold_one (λ t x. t +ℤ signed_of size x) (pos 0) xs x))

pub or_fits : (size : Size) (a b : ℕ) → a < range_of size → b < range_of size → bit_or a b < range_of size
or_fits B a b fits small = or_lt 8 a b fits small
or_fits H a b fits small = or_lt 16 a b fits small
or_fits S a b fits small = or_lt 32 a b fits small
or_fits D a b fits small = or_lt 64 a b fits small

pub xor_fits : (size : Size) (a b : ℕ) → a < range_of size → b < range_of size → bit_xor a b < range_of size
xor_fits B a b fits small = xor_lt 8 a b fits small
xor_fits H a b fits small = xor_lt 16 a b fits small
xor_fits S a b fits small = xor_lt 32 a b fits small
xor_fits D a b fits small = xor_lt 64 a b fits small

digits-zero : (n : ℕ) → digits_l 256 n 0 ≡ replicate n 0
digits-zero zero = refl
digits-zero (suc n) = ap (λ t. 0 ∷ t) (digits-zero n)

-- a number that has no more than some digits has zeros above them
digits-more : (n x : ℕ) → x < 2 ^ 64 → digits_l 256 (suc (suc (suc (suc (suc (suc (suc (suc n)))))))) x ≡ digits_l 256 8 x ++ replicate n 0
digits-more n x fits =
    let none : x / 256 / 256 / 256 / 256 / 256 / 256 / 256 / 256 ≡ 0 = omega (arith, fits) in
    ap (λ t. digits_l 256 8 x ++ t) (ap (digits_l 256 n) none ∙ digits-zero n)

-- a number of 64 bits as a vector
pub zero_extended : (x n : ℕ) → x < 2 ^ 64 → 8 ≤ n → digits_l 256 n x ≡ digits_l 256 8 x ++ replicate (n - 8) 0
zero_extended x n fits long =
    (let e : n ≡ suc (suc (suc (suc (suc (suc (suc (suc (n - 8)))))))) = omega (arith, long) in ap (λ k. digits_l 256 k x) e)
    ∙ digits-more (n - 8) x fits
