-- The bytes of a predicate and its truth values tell each other.
use Rattle.std.proofs.Common.{◌≡◌, ℕ, zero, suc, ◌+◌, ◌*◌, ◌/◌, ◌%◌, ◌^◌, ◌<◌, ◌≤◌, ◌==◌, Bool, true, false, cond, List, [], ◌∷◌, length}
use Rattle.std.proofs.Common.{take, drop, get_or, refl, ap, ◌∙◌, sym, arith}
use Rattle.std.specs.Int.{bit_at}
use Rattle.std.proofs.lemmas.Nat.Bits.{bit_at_lowest, bit_at-suc, bit_at-zero, same_from_bits_below}
use Rattle.std.proofs.lemmas.List.{get_or-take, get_or-drop, length-take-le, length-drop, same_lists, get_or_default}
use Rattle.std.proofs.lemmas.Bool.Decides.{nat_tests}
use Rattle.std.proofs.Math.Nat.{pow-suc}
use Rattle.std.proofs.lemmas.List.FromFn.{length-map-range_with_len, get_or-map-range_with_len}
use Rattle.sve_vectors.specs.Predicates.{truth_at, truths_of, byte_of_truths, predicate_bytes}
use Rattle.sve_vectors.proofs.Writing.{length-truths, truths-at}

low : (holds : Bool) (n : ℕ) → (cond holds 1 0 + 2 * n) % 2 ≡ cond holds 1 0
low true n = omega arith
low false n = omega arith

half : (holds : Bool) (n : ℕ) → (cond holds 1 0 + 2 * n) / 2 ≡ n
half true n = omega arith
half false n = omega arith

byte_bit : (truths : List Bool) (j : ℕ) → bit_at (byte_of_truths truths) j ≡ cond (get_or truths j false) 1 0
byte_bit [] j = bit_at-zero j
byte_bit (holds ∷ rest) zero = bit_at_lowest (cond holds 1 0 + 2 * byte_of_truths rest) ∙ low holds (byte_of_truths rest)
byte_bit (holds ∷ rest) (suc j) =
    bit_at-suc (cond holds 1 0 + 2 * byte_of_truths rest) j
    ∙ ap (λ n. bit_at n j) (half holds (byte_of_truths rest)) ∙ byte_bit rest j

doubled : (holds : Bool) (n m : ℕ) → n < m → cond holds 1 0 + 2 * n < m * 2
doubled true n m lt = omega arith
doubled false n m lt = omega arith

byte_below : (truths : List Bool) (n : ℕ) → length truths ≡ n → byte_of_truths truths < 2 ^ n
byte_below [] zero e = omega arith
byte_below [] (suc n) e = absurd (omega arith)
byte_below (holds ∷ rest) zero e = absurd (omega arith)
byte_below (holds ∷ rest) (suc n) e = rw pow-suc (doubled holds (byte_of_truths rest) (2 ^ n) (byte_below rest n (omega arith)))

one_bit : (x : ℕ) → cond (x % 2 == 1) 1 0 ≡ x % 2
one_bit x = grind (arith, nat_tests)

is_one : (holds : Bool) → (cond holds 1 0 == 1) ≡ holds
is_one true = refl
is_one false = refl

truth_in : (bytes : List ℕ) (k j : ℕ) → j < 8 → truth_at bytes (8 * k + j) ≡ (bit_at (get_or bytes k 0) j == 1)
unfolding truth_at
truth_in bytes k j lt =
    let place : (8 * k + j) / 8 ≡ k = omega arith in
    let bit : (8 * k + j) % 8 ≡ j = omega arith in
    rw (place, bit) refl

eight_at : (truths : List Bool) (k j : ℕ) → j < 8 → get_or (take 8 (drop (8 * k) truths)) j false ≡ get_or truths (8 * k + j) false
eight_at truths k j lt = get_or-take 8 (drop (8 * k) truths) j false lt ∙ get_or-drop (8 * k) truths j false

eight_long : (truths : List Bool) (k : ℕ) → 8 * k + 8 ≤ length truths → length (take 8 (drop (8 * k) truths)) ≡ 8
eight_long truths k le = length-take-le 8 (drop (8 * k) truths) (omega (arith, length-drop (8 * k) truths))

same_byte : (bytes : List ℕ) (k : ℕ) → k < length bytes → get_or bytes k 0 < 256
    → byte_of_truths (take 8 (drop (8 * k) (truths_of bytes))) ≡ get_or bytes k 0
same_byte bytes k lt small = same_from_bits_below 8 _ _ (byte_below eight 8 long) small each
  where
    eight : List Bool
    eight = take 8 (drop (8 * k) (truths_of bytes))

    long : length eight ≡ 8
    long = eight_long (truths_of bytes) k (omega (arith, length-truths bytes))

    each : (j : ℕ) → j < 8 → bit_at (byte_of_truths eight) j ≡ bit_at (get_or bytes k 0) j
    each j below =
        byte_bit eight j
        ∙ ap (λ t. cond t 1 0)
        (eight_at (truths_of bytes) k j below ∙ truths-at bytes (8 * k + j) false (omega arith) ∙ truth_in bytes k j below)
        ∙ one_bit (get_or bytes k 0 / 2 ^ j)

length-predicate_bytes : (truths : List Bool) → length (predicate_bytes truths) ≡ length truths / 8
unfolding predicate_bytes
length-predicate_bytes truths = length-map-range_with_len (λ k. byte_of_truths (take 8 (drop (8 * k) truths))) 0 (length truths / 8)

predicate_byte : (truths : List Bool) (k d : ℕ) → k < length truths / 8
    → get_or (predicate_bytes truths) k d ≡ byte_of_truths (take 8 (drop (8 * k) truths))
unfolding predicate_bytes
predicate_byte truths k d lt =
    get_or-map-range_with_len (λ j. byte_of_truths (take 8 (drop (8 * j) truths))) 0 (length truths / 8) k k d lt (omega arith)

-- the bytes of the truth values of bytes
pub predicate_bytes-truths : (bytes : List ℕ) → ((k : ℕ) → k < length bytes → get_or bytes k 0 < 256)
    → predicate_bytes (truths_of bytes) ≡ bytes
predicate_bytes-truths bytes small = same_lists _ _ long each
  where
    long : length (predicate_bytes (truths_of bytes)) ≡ length bytes
    long = omega (arith, length-predicate_bytes (truths_of bytes), length-truths bytes)

    each : (k d : ℕ) → k < length (predicate_bytes (truths_of bytes))
        → get_or (predicate_bytes (truths_of bytes)) k d ≡ get_or bytes k d
    each k d lt =
        let below : k < length bytes = omega (arith, long) in
        predicate_byte (truths_of bytes) k d (omega (arith, length-truths bytes))
        ∙ same_byte bytes k below (small k below) ∙ get_or_default bytes k 0 d below

-- the truth values of the bytes of truth values, which fill bytes
pub truths-predicate_bytes : (truths : List Bool) → length truths % 8 ≡ 0 → truths_of (predicate_bytes truths) ≡ truths
truths-predicate_bytes truths whole = same_lists _ _ long each
  where
    long : length (truths_of (predicate_bytes truths)) ≡ length truths
    long = omega (arith, length-truths (predicate_bytes truths), length-predicate_bytes truths)

    each : (i : ℕ) (d : Bool) → i < length (truths_of (predicate_bytes truths))
        → get_or (truths_of (predicate_bytes truths)) i d ≡ get_or truths i d
    each i d lt =
        let below : i < length truths = omega (arith, long) in
        let place : 8 * (i / 8) + i % 8 ≡ i = omega arith in
        let bit : i % 8 < 8 = omega arith in
        let k : i / 8 < length truths / 8 = omega arith in
        truths-at (predicate_bytes truths) i d (omega (arith, length-predicate_bytes truths))
        ∙ ap (truth_at (predicate_bytes truths)) (sym place)
        ∙ truth_in (predicate_bytes truths) (i / 8) (i % 8) bit
        ∙ ap (λ n. bit_at n (i % 8) == 1) (predicate_byte truths (i / 8) 0 k)
        ∙ ap (λ n. n == 1) (byte_bit (take 8 (drop (8 * (i / 8)) truths)) (i % 8))
        ∙ is_one (get_or (take 8 (drop (8 * (i / 8)) truths)) (i % 8) false)
        ∙ eight_at truths (i / 8) (i % 8) bit
        ∙ ap (λ n. get_or truths n false) place
        ∙ get_or_default truths i false d below
