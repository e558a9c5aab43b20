-- Lists of bytes.
use Rattle.std.proofs.Common.{◌≡◌, ℕ, zero, suc, ◌*◌, ◌/◌, ◌^◌, ◌<◌, Bool, true, false, List, [], ◌∷◌, length, take, drop, map, get_or}
use Rattle.std.proofs.Common.{sym, arith, subst, inl, inr}
use Rattle.std.specs.Prelude.{All}
use Rattle.std.specs.List.{concat, flat_map}
use Rattle.std.specs.Int.{bytes_low_first, byte_at}
use Rattle.std.specs.Simd.Lanes.{digits_l}
use Rattle.std.proofs.lemmas.Bool.{cases_lt}
use Rattle.std.proofs.lemmas.List.{get_or_past}
use Rattle.std.proofs.lemmas.Nat.{mod_below, pow_pos}
use Rattle.std.proofs.Math.Nat.{pow-suc}
use Rattle.std.proofs.lemmas.List.Elements.{All-nil, All-cons, All-head, All-tail, All-append, All-get_or, All-take, All-drop}
use Rattle.sm_types.specs.Bytes.{little_number}
use Rattle.vector_elements.specs.Elements.{listed, element_of, bytes_of}
use Rattle.outer_products.proofs.Active.{element_fits}
use Rattle.sve_vectors.specs.Predicates.{predicate_bytes, byte_of_truths}
use Rattle.reach_laws.proofs.Fits.{AreBytes}

-- a byte at any place
pub byte_read : (bytes : List ℕ) (k : ℕ) → AreBytes bytes → get_or bytes k 0 < 256
byte_read bytes k h = elim (cases_lt k (length bytes)) [
  | inl l ↦ All-get_or (λ b. b < 256) bytes k 0 l h
  | inr g ↦ subst (λ b. b < 256) (sym (get_or_past bytes k 0 g)) (let z : 0 < 256 = omega arith in z)
]

pub element_below : (e : ℕ) (bytes : List ℕ) (i : ℕ) → AreBytes bytes → element_of e bytes i < 256 ^ e
element_below e bytes i h = element_fits e bytes i (λ k. byte_read bytes k h)

pub are_digits : (e x : ℕ) → AreBytes (digits_l 256 e x)
are_digits zero x = All-nil (λ b. b < 256)
are_digits (suc e) x = All-cons (λ b. b < 256) _ _ (mod_below x 256 (omega arith)) (are_digits e (x / 256))

pub are_bytes_of : (e : ℕ) (xs : List ℕ) → AreBytes (bytes_of e xs)
unfolding bytes_of
are_bytes_of e [] = All-nil (λ b. b < 256)
are_bytes_of e (x ∷ xs) = All-append (λ b. b < 256) (digits_l 256 e x) (bytes_of e xs) (are_digits e x) (are_bytes_of e xs)

pub are_low_first : (i n x : ℕ) → AreBytes (bytes_low_first i n x)
are_low_first i zero x = All-nil (λ b. b < 256)
are_low_first i (suc n) x = All-cons (λ b. b < 256) _ _ (byte_small i x) (are_low_first (suc i) n x)
  where
    byte_small : (i x : ℕ) → byte_at i x < 256
    byte_small zero x = omega arith
    byte_small (suc i) x = omega arith

pub are_flat : {A : Type 0} (f : A → List ℕ) (xs : List A) → ((x : A) → AreBytes (f x)) → AreBytes (flat_map f xs)
are_flat f [] h = All-nil (λ b. b < 256)
are_flat f (x ∷ xs) h = All-append (λ b. b < 256) (f x) (flat_map f xs) (h x) (are_flat f xs h)

pub are_concat : (rows : List (List ℕ)) → All AreBytes rows → AreBytes (concat rows)
are_concat [] h = All-nil (λ b. b < 256)
are_concat (row ∷ rows) h =
    All-append (λ b. b < 256) row (concat rows) (All-head AreBytes row rows h) (are_concat rows (All-tail AreBytes row rows h))

pub all_listed : {A : Type 0} (P : A → Type 0) (f : ℕ → A) (n : ℕ) → ((i : ℕ) → P (f i)) → All P (listed f n)
unfolding listed
all_listed P f zero h = All-nil P
all_listed P f (suc n) h = All-append P (listed f n) (f n ∷ []) (all_listed P f n h) (All-cons P (f n) [] (h n) (All-nil P))

pub all_mapped : {A B : Type 0} (P : B → Type 0) (f : A → B) (xs : List A) → ((x : A) → P (f x)) → All P (map f xs)
all_mapped P f [] h = All-nil P
all_mapped P f (x ∷ xs) h = All-cons P (f x) (map f xs) (h x) (all_mapped P f xs h)

-- eight truth values at most are a byte
truths_small : (n : ℕ) (truths : List Bool) → byte_of_truths (take n truths) < 2 ^ n
truths_small zero truths = omega arith
truths_small (suc n) [] = pow_pos (suc n)
truths_small (suc n) (true ∷ truths) = let h = truths_small n truths in omega (arith, pow-suc 2 n, h)
truths_small (suc n) (false ∷ truths) = let h = truths_small n truths in omega (arith, pow-suc 2 n, h)

pub are_predicate_bytes : (truths : List Bool) → AreBytes (predicate_bytes truths)
unfolding predicate_bytes
are_predicate_bytes truths = all_mapped (λ b. b < 256) (λ k. byte_of_truths (take 8 (drop (8 * k) truths))) _
    (λ k. truths_small 8 (drop (8 * k) truths))

-- so many bytes as a number
pub little_below : (n : ℕ) (bytes : List ℕ) → AreBytes bytes → length bytes ≡ n → little_number bytes < 256 ^ n
little_below zero [] h e = omega arith
little_below zero (b ∷ bytes) h e = absurd (omega (arith, e))
little_below (suc n) [] h e = absurd (omega (arith, e))
little_below (suc n) (b ∷ bytes) h e =
    let first = All-head (λ b. b < 256) b bytes h in
    let rest = little_below n bytes (All-tail (λ b. b < 256) b bytes h) (omega (arith, e)) in
    omega (arith, pow-suc 256 n, first, rest)

-- parts of some bytes, each at a place
pub are_parts : (n : ℕ) (at : ℕ → ℕ) (bytes places : List ℕ) → AreBytes bytes → AreBytes (flat_map (λ k. take n (drop (at k) bytes)) places)
are_parts n at bytes places h =
    are_flat {A = ℕ} (λ k. take n (drop (at k) bytes)) places
    (λ k. All-take (λ b. b < 256) n (drop (at k) bytes) (All-drop (λ b. b < 256) (at k) bytes h))
