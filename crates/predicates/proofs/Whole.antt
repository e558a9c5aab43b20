-- The flags of a result all of whose elements are active.
use Rattle.std.proofs.Common.{◌≡◌, ℕ, zero, suc, ◌+◌, ◌-◌, ◌*◌, ◌/◌, ◌%◌, ◌^◌, ◌<◌, ◌≤◌, ◌==◌, ◌||◌, List, [], ◌∷◌, ◌++◌, length}
use Rattle.std.proofs.Common.{slice_index}
use Rattle.std.proofs.Common.{Bool, true, false, not, refl, ap, ap₂, sym, ◌∙◌, arith, inl, inr, bit_and, bit_or, ◌↔◌, replicate}
use Rattle.std.specs.Int.{bit_at}
use Rattle.std.proofs.lemmas.Bool.{cases_lt, eqb-true, eq-eqb, or_parts}
use Rattle.std.proofs.lemmas.Nat.Bits.{bit_at_or, bit_at-lt, bit_at-zero}
use Rattle.plain_lemmas.proofs.Tests.{implied}
use Rattle.vector_elements.specs.declared.size.Size.{Size}
use Rattle.vector_elements.specs.declared.size.Size.TheVariants.{B, H, S, D}
use Rattle.vector_elements.specs.Active.{AreActive, element_bits}
use Rattle.vector_elements.specs.Elements.{bit_of, is_active, active_of, listed}
use Rattle.vector_elements.specs.Numbers.{bytes_in}
use Rattle.vector_elements.proofs.Full.{place_of, lowest_of, element_at, element_within, bit_at_place, or_from, all_below-from}
use Rattle.vector_elements.proofs.Lists.{length-listed}
use Rattle.vector_elements.proofs.Spreads.{all_below, all_below-at, is_same, same}
use Rattle.predicates.specs.Flags.{HasBitsOfSome, any_true, governed, first_or, last_or, flags_of}
use Rattle.predicates.proofs.Loops.{listed_all}

-- a bit is clear exactly where it is in each of the first n bytes
abbrev pub HasBitsOfFirst : ℕ → List ℕ → ℕ → Type 0
HasBitsOfFirst bits p n =
    (k : ℕ) → k < 8 → (bit_at bits k ≡ 0) ↔ ((j : ℕ) → j < n → bit_at (slice_index p j) k ≡ 0)

pub begun_some : (p : List ℕ) → HasBitsOfFirst 0 p 0
begun_some p k below = (λ _ j none. absurd (omega arith), λ _. bit_at-zero k)

pub next_some : (bits : ℕ) (p : List ℕ) (i : ℕ) → HasBitsOfFirst bits p i → HasBitsOfFirst (bit_or bits (slice_index p i)) p (i + 1)
next_some bits p i so_far k below =
    let both = bit_at_or bits (slice_index p i) k in
    let one = bit_at-lt bits k in
    let other = bit_at-lt (slice_index p i) k in (
      λ clear j within. elim (cases_lt j i) [
        | inl before ↦ (so_far k below).0 (omega (arith, both, one, other, clear)) j before
        | inr last ↦
            let here : j ≡ i = omega arith in
            ap (λ n. bit_at (slice_index p n) k) here ∙ omega (arith, both, one, other, clear)
      ],
      λ all.
          let old : bit_at bits k ≡ 0 = (so_far k below).1 (λ j before. all j (omega arith)) in
          let new : bit_at (slice_index p i) k ≡ 0 = all i (omega arith) in
          omega (arith, both, old, new),
    )

-- the bit is clear, where it is an element's
is_clear_at : Size → ℕ → ℕ → Bool
is_clear_at size n k = not (k % bytes_in size == 0) || (n / 2 ^ k % 2 == 0)

are_same : Size → ℕ → Bool
are_same size n = is_same (bit_and n (element_bits size) == 0) (all_below (is_clear_at size n) 8)

all_same : (size : Size) → all_below (are_same size) 256 ≡ true
unfolding all_below are_same is_clear_at is_same
all_same B = refl
all_same H = refl
all_same S = refl
all_same D = refl

clear_bit : (size : Size) (n k : ℕ) → n < 256 → (bit_and n (element_bits size) == 0) ≡ true → k < 8 → k % bytes_in size ≡ 0
    → bit_at n k ≡ 0
unfolding are_same is_clear_at
clear_bit size n k fits holds below element =
    let all = sym (same _ _ (all_below-at (are_same size) 256 n (all_same size) fits)) ∙ holds in
    eqb-true _ _ (implied _ _ (all_below-at (is_clear_at size n) 8 k all below) (eq-eqb _ _ element))

none_if : (size : Size) (n : ℕ) → n < 256 → ((k : ℕ) → k < 8 → k % bytes_in size ≡ 0 → bit_at n k ≡ 0)
    → (bit_and n (element_bits size) == 0) ≡ true
unfolding are_same is_clear_at
none_if size n fits clear =
    same _ _ (all_below-at (are_same size) 256 n (all_same size) fits)
    ∙ all_below-from (is_clear_at size n) 8 (λ k below. or_from _ _ (λ element. eq-eqb _ _ (clear k below (eqb-true _ _ element))))

not_one : (n : ℕ) → n ≡ 0 → (n == 1) ≡ false
not_one n is = ap (λ k. k == 1) is

zero_from : (n : ℕ) → n < 2 → (n == 1) ≡ false → n ≡ 0
zero_from zero fits is = refl
zero_from (suc zero) fits is = absurd (cc)
zero_from (suc (suc n)) fits is = absurd (omega arith)

-- no element's bit is set exactly where none is active
none_active : (size : Size) (bits : ℕ) (p : List ℕ) → bits < 256 → HasBitsOfSome bits p
    → ((bit_and bits (element_bits size) == 0) ≡ true)
    ↔ ((i : ℕ) → i < 8 * length p / bytes_in size → is_active (bytes_in size) p i ≡ false)
unfolding bit_of
none_active size bits p fits some = (
  λ clear i within.
      let low : bytes_in size * i % 8 < 8 = omega arith in
      not_one _ ((some (bytes_in size * i % 8) low).0
      (clear_bit size bits (bytes_in size * i % 8) fits clear low (lowest_of size i))
      (bytes_in size * i / 8) (place_of size i (length p) within)),
  λ none. none_if size bits fits (λ k below element. (some k below).1 (λ j within.
      zero_from _ (bit_at-lt (slice_index p j) k) (sym (bit_at_place p j k below) ∙ sym (ap (bit_of p) (element_at size j k below element))
      ∙ none ((8 * j + k) / bytes_in size) (element_within size j k (length p) below element within)))),
)

any_append : (xs : List Bool) (x : Bool) → any_true (xs ++ x ∷ []) ≡ (any_true xs || x)
any_append [] true = refl
any_append [] false = refl
any_append (true ∷ xs) x = refl
any_append (false ∷ xs) x = any_append xs x

none_listed : (f : ℕ → Bool) (n : ℕ) → (any_true (listed f n) ≡ false) ↔ ((i : ℕ) → i < n → f i ≡ false)
unfolding listed
none_listed f zero = (λ _ i none. absurd (omega arith), λ _. refl)
none_listed f (suc n) = (
  λ none i within.
      let parts = or_parts _ _ (sym (any_append (listed f n) (f n)) ∙ none) in
      elim (cases_lt i n) [
        | inl before ↦ (none_listed f n).0 parts.0 i before
        | inr last ↦ (let here : i ≡ n = omega arith in ap f here ∙ parts.1)
      ],
  λ all.
      any_append (listed f n) (f n) ∙ ap₂ (λ a b. a || b) ((none_listed f n).1 (λ i within. all i (omega arith))) (all n (omega arith)),
)

both_false : (a b : Bool) → (a ≡ true) ↔ (b ≡ false) → not a ≡ b
both_false true b is = sym (is.0 refl)
both_false false true is = refl
both_false false false is = absurd (let e = is.1 refl in cc)

pub some_is : (size : Size) (bits : ℕ) (p : List ℕ) → bits < 256 → HasBitsOfSome bits p
    → not (bit_and bits (element_bits size) == 0) ≡ any_true (active_of (bytes_in size) p)
unfolding active_of
some_is size bits p fits some =
    let none = none_active size bits p fits some in
    let listed_none = none_listed (is_active (bytes_in size) p) (8 * length p / bytes_in size) in
    both_false _ _ (λ clear. listed_none.1 (none.0 clear), λ clear. none.1 (listed_none.0 clear))

-- where all are active, all results are governed
governed_all : (xs : List Bool) (n : ℕ) → length xs ≡ n → governed (replicate n true) xs ≡ xs
unfolding governed
governed_all [] zero is = refl
governed_all [] (suc n) is = absurd (omega arith)
governed_all (x ∷ xs) zero is = absurd (omega arith)
governed_all (x ∷ xs) (suc n) is = ap (λ t. x ∷ t) (governed_all xs n (omega arith))

first_append : (xs ys : List Bool) (none : Bool) → 0 < length xs → first_or none (xs ++ ys) ≡ first_or none xs
first_append [] ys none some = absurd (omega arith)
first_append (x ∷ xs) ys none some = refl

first_listed : (f : ℕ → Bool) (n : ℕ) → first_or false (listed f (suc n)) ≡ f 0
unfolding listed
first_listed f zero = refl
first_listed f (suc n) =
    first_append (listed f (suc n)) (f (suc n) ∷ []) false (let long = length-listed f (suc n) in omega (arith, long))
    ∙ first_listed f n

last_append : (xs : List Bool) (x none : Bool) → last_or none (xs ++ x ∷ []) ≡ x
last_append [] x none = refl
last_append (y ∷ xs) x none = last_append xs x y

last_listed : (f : ℕ → Bool) (n : ℕ) → last_or false (listed f (suc n)) ≡ f n
unfolding listed
last_listed f n = last_append (listed f n) (f n) false

count_of : (size : Size) (n : ℕ) → 1 ≤ n → 8 * n / bytes_in size ≡ suc (8 * n / bytes_in size - 1)
count_of B n some = omega arith
count_of H n some = omega arith
count_of S n some = omega arith
count_of D n some = omega arith

last_place : (size : Size) (n : ℕ) → 1 ≤ n → bytes_in size * (8 * n / bytes_in size - 1) ≡ 8 * n - bytes_in size
last_place B n some = omega arith
last_place H n some = omega arith
last_place S n some = omega arith
last_place D n some = omega arith

zero_place : (size : Size) → bytes_in size * 0 ≡ 0
zero_place B = refl
zero_place H = refl
zero_place S = refl
zero_place D = refl

pub whole_flags : (size : Size) (mask results : List ℕ) (some : Bool) → length results ≡ length mask → 1 ≤ length mask
    → AreActive size mask → some ≡ any_true (active_of (bytes_in size) results)
    → record { n = bit_of results 0; z = not some; c = not (bit_of results (8 * length results - bytes_in size)); v = false }
    ≡ flags_of (active_of (bytes_in size) mask) (active_of (bytes_in size) results)
unfolding flags_of active_of
whole_flags size mask results some same_length least active is_some =
    let e = bytes_in size in
    let n = 8 * length results / e in
    let f : ℕ → Bool = is_active e results in
    let count : 8 * length mask / e ≡ n = ap (λ k. 8 * k / e) (sym same_length) in
    let least_here : 1 ≤ length results = omega arith in
    let next : n ≡ suc (n - 1) = count_of size (length results) least_here in
    let all : listed (is_active e mask) (8 * length mask / e) ≡ replicate n true =
    listed_all (is_active e mask) (8 * length mask / e) active
    ∙ ap (λ k. replicate k true) count in
    let results_are : governed (listed (is_active e mask) (8 * length mask / e)) (listed f n) ≡ listed f n =
    ap (λ m. governed m (listed f n)) all ∙ governed_all (listed f n) n (length-listed f n) in
    let first : first_or false (listed f n) ≡ bit_of results 0 =
    ap (λ k. first_or false (listed f k)) next ∙ first_listed f (n - 1) ∙ ap (bit_of results) (zero_place size) in
    let last : last_or false (listed f n) ≡ bit_of results (8 * length results - e) =
    ap (λ k. last_or false (listed f k)) next ∙ last_listed f (n - 1) ∙ ap (bit_of results) (last_place size (length results) least_here) in
    rw (results_are, first, last, is_some) refl
