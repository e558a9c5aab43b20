-- Predicates whose elements are all active, by the bits that all their bytes have.
use Rattle.std.proofs.Common.{◌≡◌, ℕ, zero, suc, ◌+◌, ◌*◌, ◌/◌, ◌%◌, ◌^◌, ◌<◌, ◌==◌, ◌||◌, List, length, slice_index}
use Rattle.std.proofs.Common.{Bool, true, false, not, refl, ap, sym, ◌∙◌, arith, inl, inr, bit_and, ◌↔◌, ◌&&◌, subst, if◌then◌else◌}
use Rattle.std.specs.Int.{bit_at}
use Rattle.std.proofs.lemmas.Bool.{cases_lt, eqb-true, eq-eqb}
use Rattle.std.proofs.lemmas.Nat.Bits.{bit_at_and, bit_at-lt, bit_at_ones}
use Rattle.plain_lemmas.proofs.Tests.{implied}
use Rattle.vector_elements.specs.declared.size.Size.{Size}
use Rattle.vector_elements.specs.declared.size.Size.TheVariants.{B, H, S, D}
use Rattle.vector_elements.specs.Active.{AreActive, HasCommonBits, element_bits}
use Rattle.vector_elements.specs.Elements.{bit_of, is_active, each_element, each_active, each_or_zero}
use Rattle.vector_elements.specs.Numbers.{bytes_in}
use Rattle.vector_elements.proofs.Masks.{each_same}
use Rattle.vector_elements.proofs.Spreads.{all_below, all_below-at, is_same, same}

-- a bit is set exactly where it is in each of the first n bytes
abbrev pub HasBitsTo : ℕ → List ℕ → ℕ → Type 0
HasBitsTo bits p n =
    (k : ℕ) → k < 8 → (bit_at bits k ≡ 1) ↔ ((j : ℕ) → j < n → bit_at (slice_index p j) k ≡ 1)

pub begun_bits : (p : List ℕ) → HasBitsTo 255 p 0
begun_bits p k below = (λ _ j none. absurd (omega arith), λ _. bit_at_ones 8 k below)

pub next_bits : (bits : ℕ) (p : List ℕ) (i : ℕ) → HasBitsTo bits p i → HasBitsTo (bit_and bits (slice_index p i)) p (i + 1)
next_bits bits p i so_far k below =
    let both = bit_at_and bits (slice_index p i) k in
    let one = bit_at-lt bits k in
    let other = bit_at-lt (slice_index p i) k in (
      λ set j within. elim (cases_lt j i) [
        | inl before ↦ (so_far k below).0 (omega (arith, both, one, other, set)) j before
        | inr last ↦
            let here : j ≡ i = omega arith in
            ap (λ n. bit_at (slice_index p n) k) here ∙ omega (arith, both, one, other, set)
      ],
      λ all.
          let old : bit_at bits k ≡ 1 = (so_far k below).1 (λ j before. all j (omega arith)) in
          let new : bit_at (slice_index p i) k ≡ 1 = all i (omega arith) in
          omega (arith, both, old, new),
    )

pub all_below-from : (test : ℕ → Bool) (n : ℕ) → ((k : ℕ) → k < n → test k ≡ true) → all_below test n ≡ true
unfolding all_below
all_below-from test zero holds = refl
all_below-from test (suc n) holds =
    ap (λ b. b && test n) (all_below-from test n (λ k below. holds k (omega arith))) ∙ holds n (omega arith)

-- the bit is set, where it is an element's
is_set_at : Size → ℕ → ℕ → Bool
is_set_at size n k = not (k % bytes_in size == 0) || (n / 2 ^ k % 2 == 1)

are_same : Size → ℕ → Bool
are_same size n = is_same (bit_and n (element_bits size) == element_bits size) (all_below (is_set_at size n) 8)

all_same : (size : Size) → all_below (are_same size) 256 ≡ true
unfolding all_below are_same is_set_at is_same
all_same B = refl
all_same H = refl
all_same S = refl
all_same D = refl

pub or_from : (a b : Bool) → (a ≡ true → b ≡ true) → (not a || b) ≡ true
or_from true b from = from refl
or_from false b from = refl

HasElementBits : Size → ℕ → Type 0
HasElementBits size n = (k : ℕ) → k < 8 → k % bytes_in size ≡ 0 → bit_at n k ≡ 1

tested : (size : Size) (n : ℕ) → n < 256 → (bit_and n (element_bits size) == element_bits size) ≡ true → HasElementBits size n
unfolding are_same is_set_at HasElementBits
tested size n fits holds k below element =
    let all = sym (same _ _ (all_below-at (are_same size) 256 n (all_same size) fits)) ∙ holds in
    eqb-true _ _ (implied _ _ (all_below-at (is_set_at size n) 8 k all below) (eq-eqb _ _ element))

holds_if : (size : Size) (n : ℕ) → n < 256 → HasElementBits size n → (bit_and n (element_bits size) == element_bits size) ≡ true
unfolding are_same is_set_at HasElementBits
holds_if size n fits set =
    same _ _ (all_below-at (are_same size) 256 n (all_same size) fits)
    ∙ all_below-from (is_set_at size n) 8 (λ k below. or_from _ _ (λ element. eq-eqb _ _ (set k below (eqb-true _ _ element))))

-- where element i stands in a predicate, and which element stands at a place
pub place_of : (size : Size) (i n : ℕ) → i < 8 * n / bytes_in size → bytes_in size * i / 8 < n
place_of B i n within = omega arith
place_of H i n within = omega arith
place_of S i n within = omega arith
place_of D i n within = omega arith

pub lowest_of : (size : Size) (i : ℕ) → bytes_in size * i % 8 % bytes_in size ≡ 0
lowest_of B i = omega arith
lowest_of H i = omega arith
lowest_of S i = omega arith
lowest_of D i = omega arith

pub element_at : (size : Size) (j k : ℕ) → k < 8 → k % bytes_in size ≡ 0 → bytes_in size * ((8 * j + k) / bytes_in size) ≡ 8 * j + k
element_at B j k below element = omega arith
element_at H j k below element = omega arith
element_at S j k below element = omega arith
element_at D j k below element = omega arith

pub element_within : (size : Size) (j k n : ℕ) → k < 8 → k % bytes_in size ≡ 0 → j < n → (8 * j + k) / bytes_in size < 8 * n / bytes_in size
element_within B j k n below element within = omega arith
element_within H j k n below element within = omega arith
element_within S j k n below element within = omega arith
element_within D j k n below element within = omega arith

pub bit_at_place : (p : List ℕ) (j k : ℕ) → k < 8 → bit_of p (8 * j + k) ≡ (slice_index p j / 2 ^ k % 2 == 1)
unfolding bit_of
bit_at_place p j k below =
    let byte : (8 * j + k) / 8 ≡ j = omega arith in
    let bit : (8 * j + k) % 8 ≡ k = omega arith in
    ap (λ n. slice_index p n / 2 ^ ((8 * j + k) % 8) % 2 == 1) byte ∙ ap (λ n. slice_index p j / 2 ^ n % 2 == 1) bit

pub active_if : (size : Size) (bits : ℕ) (p : List ℕ) → bits < 256 → HasCommonBits bits p
    → ((bit_and bits (element_bits size) == element_bits size) ≡ true) ↔ AreActive size p
unfolding bit_of HasElementBits
active_if size bits p fits common = (
  λ holds i within.
      let low : bytes_in size * i % 8 < 8 = omega arith in
      eq-eqb _ _ ((common (bytes_in size * i % 8) low).0
      (tested size bits fits holds (bytes_in size * i % 8) low (lowest_of size i))
      (bytes_in size * i / 8) (place_of size i (length p) within)),
  λ active. holds_if size bits fits (λ k below element. (common k below).1 (λ j within.
      eqb-true _ _ (sym (bit_at_place p j k below) ∙ sym (ap (bit_of p) (element_at size j k below element))
      ∙ active ((8 * j + k) / bytes_in size) (element_within size j k (length p) below element within)))),
)

-- where all are active, a change of each is one of the active ones
active_here : (size : Size) (p d : List ℕ) → AreActive size p → length d ≡ 8 * length p
    → (i : ℕ) → i < length d / bytes_in size → is_active (bytes_in size) p i ≡ true
active_here size p d active bits i below = active i (subst (λ n. i < n / bytes_in size) bits below)

pub all_active : (size : Size) (p d : List ℕ) (f : ℕ → ℕ → ℕ) → AreActive size p → length d ≡ 8 * length p
    → each_element (bytes_in size) d f ≡ each_active (bytes_in size) p d f
all_active size p d f active bits =
    each_same _ _ _ _ (λ i below old. ap (λ b. if b then f i old else old) (sym (active_here size p d active bits i below)))

pub all_active_or_zero : (size : Size) (p d : List ℕ) (f : ℕ → ℕ → ℕ) → AreActive size p → length d ≡ 8 * length p
    → each_element (bytes_in size) d f ≡ each_or_zero (bytes_in size) p d f
all_active_or_zero size p d f active bits =
    each_same _ _ _ _ (λ i below old. ap (λ b. if b then f i old else 0) (sym (active_here size p d active bits i below)))
