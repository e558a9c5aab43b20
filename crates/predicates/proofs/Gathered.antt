-- Predicates that are gathered from marks.
use Rattle.std.proofs.Common.{◌≡◌, if◌then◌else◌, ℕ, zero, suc, ◌+◌, ◌-◌, ◌*◌, ◌/◌, ◌%◌, ◌^◌, ◌<◌, ◌≤◌, min, ◌∙◌, sym, ap, ap₂, arith}
use Rattle.std.proofs.Common.{◌==◌, ◌&&◌, Bool, true, false, List, [], ◌∷◌, ◌++◌, length, map, take, drop, refl, cond, bit_and, slice_index}
use Rattle.std.proofs.Common.{replicate, subst, get_or, eqb, w8, get_or-take, set, slice_set, get_or-set_same, get_or-set_other, ◌≢◌}
use Rattle.std.proofs.Common.{inl, inr, mod-eq_of_lt}
use Rattle.std.specs.Int.{bit_at}
use Rattle.std.specs.Simd.Lanes.{digits_l, mask_l, chunk, zip2, top}
use Rattle.std.proofs.lemmas.Simd.{bitmask_splat, bit_mask_l, mask_l-lt, get_or-chunk}
use Rattle.std.proofs.lemmas.List.{get_or-map, length-map, get_or-drop}
use Rattle.std.proofs.lemmas.Grind.{common_steps}
use Rattle.std.proofs.lemmas.Nat.Bits.{bit_at_and, bit_at-lt}
use Rattle.std.proofs.lemmas.Bool.{cases_lt, cases_eq, eq-eqb, ne_eqb}
use Rattle.vector_elements.specs.declared.size.Size.{Size}
use Rattle.vector_elements.specs.declared.size.Size.TheVariants.{B, H, S, D}
use Rattle.vector_elements.specs.Active.{element_bits}
use Rattle.vector_elements.specs.Elements.{bit_of, is_active, each_element, listed, bytes_of}
use Rattle.vector_elements.proofs.Lists.{length-written}
use Rattle.vector_elements.proofs.Masks.{lowest_byte}
use Rattle.vector_elements.proofs.ReadBack.{read_back}
use Rattle.predicates.specs.Predicates.{bit_for}
use Rattle.vector_elements.specs.Numbers.{bytes_in, range_of}
use Rattle.vector_elements.proofs.Spreads.{all_below, all_below-at, is_same, same}

one_or_none : (b : Bool) → (cond b 1 0 == 1) ≡ b
one_or_none true = refl
one_or_none false = refl

-- bit k of the bits of eight lanes that are compared with 255
pub bit_of_lanes : (xs : List ℕ) (k : ℕ) → length xs ≡ 8 → k < 8
    → (mask_l (map (top 7) (zip2 (λ a b. cond (eqb a b) (2 ^ 8 - 1) 0) xs (replicate 8 255))) % 2 ^ 64 % 256 / 2 ^ k % 2 == 1)
    ≡ (get_or xs k 0 == 255)
bit_of_lanes xs k long below =
    let ms : List Bool = map (λ x. eqb x 255) xs in
    let count : length ms ≡ 8 = length-map xs (λ x. eqb x 255) ∙ long in
    let small : mask_l ms < 256 = subst (λ n. mask_l ms < 2 ^ n) count (mask_l-lt ms) in
    ap (λ n. n % 256 / 2 ^ k % 2 == 1) (bitmask_splat w8 eqb xs 8 255 long (omega arith))
    ∙ ap (λ n. n / 2 ^ k % 2 == 1) (mod-eq_of_lt small) ∙ ap (λ n. n == 1) (bit_mask_l ms k)
    ∙ one_or_none (get_or ms k false) ∙ get_or-map (λ x. eqb x 255) xs k 0 false (omega arith)

pub lane_at : (xs : List ℕ) (i k : ℕ) → 8 * i + 8 ≤ length xs → k < 8
    → get_or (chunk 0 8 (take (8 * i + 8 - 8 * i) (drop (8 * i) xs))) k 0 ≡ get_or xs (8 * i + k) 0
lane_at xs i k room below =
    get_or-chunk 0 8 _ k 0 below ∙ ap (λ n. get_or (take (8 * i + 8 - 8 * i) (drop (8 * i) xs)) n 0) (omega arith)
    ∙ get_or-take (8 * i + 8 - 8 * i) (drop (8 * i) xs) k 0 (omega arith) ∙ get_or-drop (8 * i) xs k 0

pub lanes_long : (xs : List ℕ) (i : ℕ) → 8 * i + 8 ≤ length xs
    → length (chunk 0 8 (take (8 * i + 8 - 8 * i) (drop (8 * i) xs))) ≡ 8
lanes_long xs i room = grind (arith, common_steps)

-- of a byte of a predicate, the bits of elements
lowest_at : Size → ℕ → Bool
lowest_at size k = is_same (element_bits size / 2 ^ k % 2 == 1) (k % bytes_in size == 0)

all_lowest : (size : Size) → all_below (lowest_at size) 8 ≡ true
unfolding all_below lowest_at is_same
all_lowest B = refl
all_lowest H = refl
all_lowest S = refl
all_lowest D = refl

pub lowest : (size : Size) (k : ℕ) → k < 8 → (element_bits size / 2 ^ k % 2 == 1) ≡ (k % bytes_in size == 0)
unfolding lowest_at
lowest size k below = same _ _ (all_below-at (lowest_at size) 8 k (all_lowest size) below)

both : (x y : ℕ) → x < 2 → y < 2 → (min x y == 1) ≡ ((x == 1) && (y == 1))
both zero zero a b = refl
both zero (suc zero) a b = refl
both (suc zero) zero a b = refl
both (suc zero) (suc zero) a b = refl
both (suc (suc x)) y a b = absurd (omega arith)
both zero (suc (suc y)) a b = absurd (omega arith)
both (suc zero) (suc (suc y)) a b = absurd (omega arith)

pub joined_bit : (a b k : ℕ) → (bit_at (bit_and a b) k == 1) ≡ ((bit_at a k == 1) && (bit_at b k == 1))
joined_bit a b k = ap (λ n. n == 1) (bit_at_and a b k) ∙ both (bit_at a k) (bit_at b k) (bit_at-lt a k) (bit_at-lt b k)

-- the bits of the first n bytes are those of active elements that are marked
abbrev pub AreGatheredTo : Size → List ℕ → List ℕ → List ℕ → ℕ → Type 0
AreGatheredTo size marks pg pd n = (j : ℕ) → j < 8 * n → bit_of pd j ≡
    ((j % bytes_in size == 0) && (bit_of pg j && (slice_index marks j == 255)))

pub in_element : (size : Size) (i k : ℕ) → (8 * i + k) % bytes_in size ≡ k % bytes_in size
in_element B i k = omega arith
in_element H i k = omega arith
in_element S i k = omega arith
in_element D i k = omega arith

turned : (m g e : Bool) → ((m && g) && e) ≡ (e && (g && m))
turned true true true = refl
turned true true false = refl
turned true false true = refl
turned true false false = refl
turned false true true = refl
turned false true false = refl
turned false false true = refl
turned false false false = refl

-- one byte more
pub gathered_next : (size : Size) (marks pg pd : List ℕ) (i g : ℕ) → i < length pd
    → ((k : ℕ) → k < 8 → (g / 2 ^ k % 2 == 1) ≡ (slice_index marks (8 * i + k) == 255)) → AreGatheredTo size marks pg pd i
    → AreGatheredTo size marks pg (slice_set pd i (bit_and (bit_and g (slice_index pg i)) (element_bits size))) (i + 1)
unfolding bit_of
gathered_next size marks pg pd i g room marked so_far j below = elim (cases_lt j (8 * i)) [
  | inl before ↦
      let other : j / 8 ≢ i = omega arith in
      ap (λ n. n / 2 ^ (j % 8) % 2 == 1) (get_or-set_other pd i (j / 8) new 0 other) ∙ so_far j before
  | inr from ↦
      let byte : j / 8 ≡ i = omega arith in
      let low : j % 8 < 8 = omega arith in
      let place : 8 * i + j % 8 ≡ j = omega arith in
      let element : (j % 8 % bytes_in size == 0) ≡ (j % bytes_in size == 0) =
      ap (λ n. n == 0) (sym (in_element size i (j % 8)) ∙ ap (λ n. n % bytes_in size) place) in
      let mark : (g / 2 ^ (j % 8) % 2 == 1) ≡ (slice_index marks j == 255) =
      marked (j % 8) low ∙ ap (λ n. slice_index marks n == 255) place in
      ap (λ n. get_or (set pd i new) n 0 / 2 ^ (j % 8) % 2 == 1) byte
      ∙ ap (λ n. n / 2 ^ (j % 8) % 2 == 1) (get_or-set_same pd i new 0 room)
      ∙ joined_bit (bit_and g (slice_index pg i)) (element_bits size) (j % 8)
      ∙ ap₂ (λ a b. a && b) (joined_bit g (slice_index pg i) (j % 8)) (lowest size (j % 8) low ∙ element)
      ∙ ap (λ m. (m && (slice_index pg i / 2 ^ (j % 8) % 2 == 1)) && (j % bytes_in size == 0)) mark
      ∙ ap (λ n. ((slice_index marks j == 255) && (slice_index pg n / 2 ^ (j % 8) % 2 == 1)) && (j % bytes_in size == 0)) (sym byte)
      ∙ turned (slice_index marks j == 255) (slice_index pg (j / 8) / 2 ^ (j % 8) % 2 == 1) (j % bytes_in size == 0)
]
  where
    new : ℕ
    new = bit_and (bit_and g (slice_index pg i)) (element_bits size)

-- the lowest byte of an element that is marked where a truth value holds
mark_of : Size → Bool → ℕ
mark_of size holds = if holds then range_of size - 1 else 0

lowest_mark : (size : Size) (holds : Bool) (n : ℕ) → mark_of size holds % 256 ^ bytes_in size % 256 ≡ n % 256 → n < 256 → (n == 255) ≡ holds
unfolding mark_of
lowest_mark B true n is fits = eq-eqb _ _ (omega arith)
lowest_mark H true n is fits = eq-eqb _ _ (omega arith)
lowest_mark S true n is fits = eq-eqb _ _ (omega arith)
lowest_mark D true n is fits = eq-eqb _ _ (omega arith)
lowest_mark B false n is fits = let none : n ≡ 0 = omega arith in ap (λ k. k == 255) none
lowest_mark H false n is fits = let none : n ≡ 0 = omega arith in ap (λ k. k == 255) none
lowest_mark S false n is fits = let none : n ≡ 0 = omega arith in ap (λ k. k == 255) none
lowest_mark D false n is fits = let none : n ≡ 0 = omega arith in ap (λ k. k == 255) none

first_of : (size : Size) (j : ℕ) → j % bytes_in size ≡ 0 → bytes_in size * (j / bytes_in size) ≡ j
first_of B j lowest = omega arith
first_of H j lowest = omega arith
first_of S j lowest = omega arith
first_of D j lowest = omega arith

inside : (size : Size) (j n : ℕ) → n % bytes_in size ≡ 0 → j < n → j / bytes_in size < n / bytes_in size
inside B j n whole below = omega arith
inside H j n whole below = omega arith
inside S j n whole below = omega arith
inside D j n whole below = omega arith

within : (size : Size) (j n : ℕ) → n % bytes_in size ≡ 0 → j < n
    → bytes_in size * (j / bytes_in size) + bytes_in size ≤ bytes_in size * (n / bytes_in size)
within B j n whole below = omega arith
within H j n whole below = omega arith
within S j n whole below = omega arith
within D j n whole below = omega arith

whole_marks : (size : Size) (long n : ℕ) → long ≡ 8 * n → long % bytes_in size ≡ 0
whole_marks B long n is = omega arith
whole_marks H long n is = omega arith
whole_marks S long n is = omega arith
whole_marks D long n is = omega arith

digits_small : (e x j : ℕ) → get_or (digits_l 256 e x) j 0 < 256
digits_small zero x j = omega arith
digits_small (suc e) x zero = let low : x % 256 < 256 = omega arith in low
digits_small (suc e) x (suc j) = digits_small e (x / 256) j

append_small : (xs ys : List ℕ) → ((j : ℕ) → get_or xs j 0 < 256) → ((j : ℕ) → get_or ys j 0 < 256)
    → (j : ℕ) → get_or (xs ++ ys) j 0 < 256
append_small [] ys front back j = back j
append_small (x ∷ xs) ys front back zero = front zero
append_small (x ∷ xs) ys front back (suc j) = append_small xs ys (λ k. front (suc k)) back j

bytes_small : (e : ℕ) (xs : List ℕ) (j : ℕ) → get_or (bytes_of e xs) j 0 < 256
unfolding bytes_of
bytes_small e [] j = omega arith
bytes_small e (x ∷ xs) j = append_small (digits_l 256 e x) (bytes_of e xs) (digits_small e x) (bytes_small e xs) j

-- the marks of the truth values of all elements
abbrev pub marks_of : Size → List ℕ → (ℕ → Bool) → List ℕ
marks_of size bytes f = each_element (bytes_in size) bytes (λ i old. if f i then range_of size - 1 else 0)

pub marked_at : (size : Size) (bytes : List ℕ) (f : ℕ → Bool) (j : ℕ) → length bytes % bytes_in size ≡ 0 → j < length bytes
    → j % bytes_in size ≡ 0
    → (slice_index (marks_of size bytes f) j == 255) ≡ f (j / bytes_in size)
unfolding each_element mark_of
marked_at size bytes f j whole below first =
    let e = bytes_in size in
    let n = length bytes / e in
    let g : ℕ → ℕ = λ i. mark_of size (f i) in
    let long = length-written e g n in
    let room : e * (j / e) + e ≤ length (bytes_of e (listed g n)) =
    subst (λ k. e * (j / e) + e ≤ k) (sym long) (within size j (length bytes) whole below) in
    let back = read_back e g n (j / e) (inside size j (length bytes) whole below) in
    let low = lowest_byte size (bytes_of e (listed g n)) (j / e) room in
    let at : slice_index (bytes_of e (listed g n)) (e * (j / e)) ≡ slice_index (bytes_of e (listed g n)) j =
    ap (slice_index (bytes_of e (listed g n))) (first_of size j first) in
    lowest_mark size (f (j / e)) _ (ap (λ k. k % 256) (sym back) ∙ low ∙ ap (λ k. k % 256) at)
    (bytes_small e (listed g n) j)

-- what is gathered of the marks is the predicate of the active elements that hold
pub gathered_bit : (size : Size) (bytes pg pd : List ℕ) (f : ℕ → Bool) (n : ℕ) → length bytes ≡ 8 * n
    → AreGatheredTo size (marks_of size bytes f) pg pd n
    → (j : ℕ) → j < 8 * n → bit_of pd j ≡ bit_for (bytes_in size) (λ i. is_active (bytes_in size) pg i && f i) j
gathered_bit size bytes pg pd f n long gathered j below = elim (cases_eq (j % bytes_in size) 0) [
  | inl lowest ↦
      let e = bytes_in size in
      gathered j below
      ∙ ap (λ b. (j % e == 0) && (bit_of pg j && b))
      (marked_at size bytes f j (whole_marks size (length bytes) n long) (omega arith) lowest)
      ∙ ap (λ k. (j % e == 0) && (bit_of pg k && f (j / e))) (sym (first_of size j lowest))
  | inr other ↦
      let none : (j % bytes_in size == 0) ≡ false = ne_eqb _ 0 other in
      gathered j below ∙ ap (λ b. b && (bit_of pg j && (slice_index (marks_of size bytes f) j == 255))) none
      ∙ sym (ap (λ b. b && (is_active (bytes_in size) pg (j / bytes_in size) && f (j / bytes_in size))) none)
]
