-- Masks of predicates.
use Rattle.std.proofs.Common.{◌≡◌, ℕ, zero, suc, refl, ◌++◌, ◌+◌, ◌*◌, ◌/◌, ◌%◌, ◌^◌, ◌<◌, ◌≤◌, ◌==◌, List, [], ◌∷◌, length, take}
use Rattle.std.proofs.Common.{slice_index, arith, ap, Bool, true, false, not, ◌∙◌, sym, inl, inr}
use Rattle.std.proofs.Math.Seq.{drop-cons}
use Rattle.std.proofs.lemmas.Bool.{cases_lt}
use Rattle.std.specs.Simd.Lanes.{number_l}
use Rattle.vector_elements.specs.declared.size.Size.{Size}
use Rattle.vector_elements.specs.declared.size.Size.TheVariants.{B, H, S, D}
use Rattle.vector_elements.specs.Elements.{listed, element_of, bytes_of, bit_of, each_element}
use Rattle.vector_elements.specs.Numbers.{bytes_in}

-- the bits of a predicate up to a place, as bytes that are not zero
abbrev pub IsMaskTo : ℕ → List ℕ → List ℕ → Type 0
IsMaskTo end p mask = (j : ℕ) → j < end → not (slice_index mask j == 0) ≡ bit_of p j

not_not : (b : Bool) → not (not b) ≡ b
not_not true = refl
not_not false = refl

-- with one byte of the predicate more
pub mask_next : (p old new : List ℕ) (i : ℕ) → IsMaskTo (8 * i) p old
    → ((k : ℕ) → k < 8 → (slice_index new (8 * i + k) == 0) ≡ not (slice_index p i / 2 ^ k % 2 == 1))
    → ((j : ℕ) → j < 8 * i → slice_index new j ≡ slice_index old j)
    → IsMaskTo (8 * (i + 1)) p new
unfolding bit_of
mask_next p old new i so_far written kept j below = elim (cases_lt j (8 * i)) [
  | inl before ↦ ap (λ n. not (n == 0)) (kept j before) ∙ so_far j before
  | inr from ↦
      let place : 8 * i + j % 8 ≡ j = omega arith in
      let byte : i ≡ j / 8 = omega arith in
      ap (λ n. not (slice_index new n == 0)) (sym place) ∙ ap not (written (j % 8) (omega arith))
      ∙ not_not (slice_index p i / 2 ^ (j % 8) % 2 == 1)
      ∙ ap (λ n. slice_index p n / 2 ^ (j % 8) % 2 == 1) byte
]

-- the low bits of an element are its lowest byte
first_byte : (xs : List ℕ) (e x : ℕ) (rest : List ℕ) → xs ≡ x ∷ rest → number_l 256 (take (suc e) xs) % 256 ≡ x % 256
first_byte xs e x rest is =
    let more = number_l 256 (take e rest) in
    let low : (x + 256 * more) % 256 ≡ x % 256 = omega arith in
    ap (λ l. number_l 256 (take (suc e) l) % 256) is ∙ low

pub lowest_byte : (size : Size) (bytes : List ℕ) (i : ℕ) → bytes_in size * i + bytes_in size ≤ length bytes
    → element_of (bytes_in size) bytes i % 256 ≡ slice_index bytes (bytes_in size * i) % 256
unfolding element_of
lowest_byte B bytes i room = first_byte _ 0 _ _ (drop-cons bytes (1 * i) 0 (omega arith))
lowest_byte H bytes i room = first_byte _ 1 _ _ (drop-cons bytes (2 * i) 0 (omega arith))
lowest_byte S bytes i room = first_byte _ 3 _ _ (drop-cons bytes (4 * i) 0 (omega arith))
lowest_byte D bytes i room = first_byte _ 7 _ _ (drop-cons bytes (8 * i) 0 (omega arith))

-- a place is that of an element
pub within : (size : Size) (i n : ℕ) → i < n / bytes_in size → bytes_in size * i < n
within B i n below = omega arith
within H i n below = omega arith
within S i n below = omega arith
within D i n below = omega arith

pub listed_same : (f g : ℕ → ℕ) (n : ℕ) → ((i : ℕ) → i < n → f i ≡ g i) → listed f n ≡ listed g n
unfolding listed
listed_same f g zero same = refl
listed_same f g (suc n) same =
    ap (λ t. t ++ f n ∷ []) (listed_same f g n (λ i below. same i (omega arith)))
    ∙ ap (λ x. listed g n ++ x ∷ []) (same n (omega arith))

-- two changes that agree at each element
pub each_same : (e : ℕ) (d : List ℕ) (f g : ℕ → ℕ → ℕ)
    → ((i : ℕ) → i < length d / e → (old : ℕ) → f i old ≡ g i old) → each_element e d f ≡ each_element e d g
unfolding each_element
each_same e d f g same = ap (bytes_of e) (listed_same _ _ (length d / e) (λ i below. same i below (element_of e d i)))
