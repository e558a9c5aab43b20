-- Predicates that are written bit by bit.
use Rattle.std.proofs.Common.{◌≡◌, if◌then◌else◌, ◌≢◌, ℕ, ◌*◌, ◌/◌, ◌%◌, ◌^◌, ◌<◌, ◌≤◌}
use Rattle.std.proofs.Common.{◌==◌, ◌&&◌, Bool, true, false, List, length, map, set, get_or}
use Rattle.std.proofs.Common.{bit_or, refl, ap, ◌∙◌, sym, arith, inl, inr, get_or-set_same, w8, subst}
use Rattle.std.specs.List.{range_with_len}
use Rattle.std.proofs.lemmas.Bool.{cases_eq, ne_eqb}
use Rattle.std.proofs.lemmas.Grind.{elements}
use Rattle.std.proofs.lemmas.List.{same_lists, set-get_or}
use Rattle.std.specs.Int.Bits.{or_zero_r}
use Rattle.std.proofs.lemmas.List.FromFn.{length-map-range_with_len, get_or-map-range_with_len}
use Rattle.std.proofs.lemmas.Nat.Bits.{bit_at_set_same, bit_at_set_other}
use Rattle.sve_vectors.specs.Predicates.{truth_at, truths_of, predicate_bytes}
use Rattle.sve_vectors.proofs.Writing.{length-truths, truths-at}
use Rattle.vector_elements.specs.declared.size.Size.{Size}
use Rattle.vector_elements.specs.declared.size.Size.TheVariants.{B, H, S, D}
use Rattle.vector_elements.specs.Elements.{bit_of}
use Rattle.vector_elements.specs.Numbers.{bytes_in}
use Rattle.predicates.specs.Predicates.{bit_for, predicate_of}

-- a bit is joined with another
abbrev pub with_value : List ℕ → ℕ → ℕ → List ℕ
with_value p i n = set p (i / 8) (bit_or (get_or p (i / 8) 0) (n * 2 ^ (i % 8) % 256))

-- one bit more is set
abbrev with_bit : List ℕ → ℕ → List ℕ
with_bit p i = set p (i / 8) (bit_or (get_or p (i / 8) 0) (1 * 2 ^ (i % 8) % 256))

set_same : (p : List ℕ) (i : ℕ) → i < 8 * length p → bit_of (with_bit p i) i ≡ true
unfolding bit_of
set_same p i lt =
    let room : i / 8 < length p = omega arith in
    let b = bit_at_set_same w8 (get_or p (i / 8) 0) (i % 8) (omega arith) in
    let g : get_or (with_bit p i) (i / 8) 0 ≡ bit_or (get_or p (i / 8) 0) (1 * 2 ^ (i % 8) % 256) =
    get_or-set_same p (i / 8) _ 0 room in
    ap (λ n. n / 2 ^ (i % 8) % 2 == 1) g ∙ ap (λ n. n == 1) b

set_other : (p : List ℕ) (i j : ℕ) → i < 8 * length p → j ≢ i → bit_of (with_bit p i) j ≡ bit_of p j
unfolding bit_of
set_other p i j lt ne = grind (arith, elements, bit_at_set_other w8 (get_or p (i / 8) 0) (i % 8) (omega arith) (j % 8))

unchanged : (p : List ℕ) (i : ℕ) → with_value p i 0 ≡ p
unchanged p i =
    let none : 0 * 2 ^ (i % 8) % 256 ≡ 0 = omega arith in
    rw (none, or_zero_r (get_or p (i / 8) 0)) (set-get_or p (i / 8) 0)

-- a clear bit becomes a truth value
pub put_same : (p : List ℕ) (i n : ℕ) (v : Bool) → i < 8 * length p → bit_of p i ≡ false → n ≡ (if v then 1 else 0)
    → bit_of (with_value p i n) i ≡ v
put_same p i n true lt clear is = ap (λ k. bit_of (with_value p i k) i) is ∙ set_same p i lt
put_same p i n false lt clear is =
    ap (λ k. bit_of (with_value p i k) i) is ∙ ap (λ q. bit_of q i) (unchanged p i) ∙ clear

pub put_other : (p : List ℕ) (i n j : ℕ) (v : Bool) → i < 8 * length p → n ≡ (if v then 1 else 0) → j ≢ i
    → bit_of (with_value p i n) j ≡ bit_of p j
put_other p i n j true lt is ne = ap (λ k. bit_of (with_value p i k) j) is ∙ set_other p i j lt ne
put_other p i n j false lt is ne = ap (λ k. bit_of (with_value p i k) j) is ∙ ap (λ q. bit_of q j) (unchanged p i)

-- the first `count` elements are as said, and all other bits are clear
pub record IsPredicateTo (e count : ℕ) (truth : ℕ → Bool) (p : List ℕ) : Type 0 where
  pub elements : (k : ℕ) → k < count → bit_of p (e * k) ≡ truth k
  pub rest : (k : ℕ) → count ≤ k → bit_of p (e * k) ≡ false
  pub others : (j : ℕ) → j % e ≢ 0 → bit_of p j ≡ false

first_byte : (size : Size) (j : ℕ) → j % bytes_in size ≡ 0 → j ≡ bytes_in size * (j / bytes_in size)
first_byte B j e = omega (arith, e)
first_byte H j e = omega (arith, e)
first_byte S j e = omega (arith, e)
first_byte D j e = omega (arith, e)

inside : (size : Size) (j n : ℕ) → j < 8 * n → j / bytes_in size < 8 * n / bytes_in size
inside B j n lt = omega (arith, lt)
inside H j n lt = omega (arith, lt)
inside S j n lt = omega (arith, lt)
inside D j n lt = omega (arith, lt)

each_bit : (size : Size) (p : List ℕ) (truth : ℕ → Bool) → IsPredicateTo (bytes_in size) (8 * length p / bytes_in size) truth p
    → (j : ℕ) → j < 8 * length p → bit_of p j ≡ bit_for (bytes_in size) truth j
each_bit size p truth is j lt = elim (cases_eq (j % bytes_in size) 0) [
  | inl e ↦
      ap (bit_of p) (first_byte size j e) ∙ is.elements (j / bytes_in size) (inside size j (length p) lt)
      ∙ sym (ap (λ n. (n == 0) && truth (j / bytes_in size)) e)
  | inr ne ↦ is.others j ne ∙ sym (ap (λ b. b && truth (j / bytes_in size)) (ne_eqb _ 0 ne))
]

same_truth : (p : List ℕ) (j : ℕ) → truth_at p j ≡ bit_of p j
unfolding truth_at bit_of
same_truth p j = refl

-- bytes all of whose bits are so
pub are_bits : (e : ℕ) (p : List ℕ) (bytes : ℕ) (truth : ℕ → Bool) → predicate_bytes (truths_of p) ≡ p → length p ≡ bytes
    → ((j : ℕ) → j < 8 * length p → bit_of p j ≡ bit_for e truth j) → p ≡ predicate_of e bytes truth
unfolding predicate_of
are_bits e p bytes truth told long is =
    sym told ∙ ap predicate_bytes (same_lists (truths_of p) values same each)
    ∙ ap (λ n. predicate_bytes (map (bit_for e truth) (range_with_len 0 (8 * n)))) long
  where
    values : List Bool
    values = map (bit_for e truth) (range_with_len 0 (8 * length p))

    same : length (truths_of p) ≡ length values
    same = length-truths p ∙ sym (length-map-range_with_len (bit_for e truth) 0 (8 * length p))

    each : (j : ℕ) (d : Bool) → j < length (truths_of p) → get_or (truths_of p) j d ≡ get_or values j d
    each j d lt =
        let below : j < 8 * length p = omega (arith, lt, length-truths p) in
        truths-at p j d below ∙ same_truth p j ∙ is j below
        ∙ sym (get_or-map-range_with_len (bit_for e truth) 0 (8 * length p) j j d below (omega arith))

-- all elements are written
pub is_whole : (size : Size) (p : List ℕ) (bytes count : ℕ) (truth : ℕ → Bool) → predicate_bytes (truths_of p) ≡ p
    → length p ≡ bytes → count ≡ 8 * bytes / bytes_in size → IsPredicateTo (bytes_in size) count truth p
    → p ≡ predicate_of (bytes_in size) bytes truth
is_whole size p bytes count truth told long all is =
    are_bits (bytes_in size) p bytes truth told long (each_bit size p truth whole)
  where
    whole : IsPredicateTo (bytes_in size) (8 * length p / bytes_in size) truth p
    whole = subst (λ n. IsPredicateTo (bytes_in size) n truth p) (all ∙ ap (λ n. 8 * n / bytes_in size) (sym long)) is
