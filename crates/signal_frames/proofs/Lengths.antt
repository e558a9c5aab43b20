-- How long the parts of a frame are.
use Rattle.std.proofs.Common.{◌≡◌, ℕ, suc, ◌+◌, ◌-◌, ◌*◌, ◌/◌, ◌%◌, ◌<◌, ◌≤◌, Bool, true, false, List, [], ◌∷◌, ◌++◌}
use Rattle.std.proofs.Common.{length, get_or, refl, ap, sym, ◌∙◌, arith, length-append}
use Rattle.std.proofs.lemmas.List.{length-replicate}
use Rattle.std.proofs.lemmas.List.FromFn.{length-map-range_with_len}
use Rattle.std.proofs.Math.Nat.{add-mul}
use Rattle.std.specs.Prelude.{if◌then◌else◌, replicate}
use Rattle.std.specs.List.{concat, flat_map}
use Rattle.byteorder.specs.Endian.{little_bytes}
use Rattle.byteorder.specs.Numbers.{length-bytes_low_first}
use Rattle.sve_vectors.specs.Predicates.{predicate_bytes}
use Rattle.sve_vectors.specs.Registers.{VectorRegisters, AreOfLength}
use Rattle.za_array.specs.Array.{IsSquare}
use Rattle.signal_frames.specs.Layout.{body_size, head_size, frame_tag, words_bytes, doublewords_bytes, head_bytes, vectors_bytes}
use Rattle.signal_frames.specs.Layout.{predicates_bytes, ffr_bytes, array_bytes, masking_bytes, vector_state_bytes}
use Rattle.signal_frames.specs.declared.masking.Masking.{Masking}
use Rattle.sm_types.specs.declared.version.Version.{Version}
use Rattle.sm_types.specs.declared.version.Version.TheVariants.{One, Two}

pub length-numbers : (k : ℕ) (xs : List ℕ) → length (flat_map (little_bytes k) xs) ≡ length xs * k
length-numbers k [] = omega arith
length-numbers k (x ∷ xs) =
    let more : length (little_bytes k x ++ flat_map (little_bytes k) xs)
    ≡ length (little_bytes k x) + length (flat_map (little_bytes k) xs) =
    length-append (little_bytes k x) (flat_map (little_bytes k) xs) in
    let one : length (little_bytes k x) ≡ k = length-bytes_low_first 0 k x in
    let rest : length (flat_map (little_bytes k) xs) ≡ length xs * k = length-numbers k xs in
    let split : (length xs + 1) * k ≡ length xs * k + 1 * k = add-mul (length xs) 1 k in
    omega arith

pub length-concat : (l : ℕ) (rows : List (List ℕ)) → ((k : ℕ) → k < length rows → length (get_or rows k []) ≡ l)
    → length (concat rows) ≡ length rows * l
length-concat l [] h = omega arith
length-concat l (row ∷ rows) h =
    let more : length (row ++ concat rows) ≡ length row + length (concat rows) = length-append row (concat rows) in
    let one : length row ≡ l = h 0 (omega arith) in
    let rest : length (concat rows) ≡ length rows * l = length-concat l rows (λ k low. h (suc k) (omega arith)) in
    let split : (length rows + 1) * l ≡ length rows * l + 1 * l = add-mul (length rows) 1 l in
    omega arith

pub length-predicate : (truths : List Bool) → length (predicate_bytes truths) ≡ length truths / 8
unfolding predicate_bytes
length-predicate truths = length-map-range_with_len _ 0 (length truths / 8)

pub length-predicates : (l : ℕ) (rows : List (List Bool)) → ((k : ℕ) → k < length rows → length (get_or rows k []) ≡ l)
    → length (flat_map predicate_bytes rows) ≡ length rows * (l / 8)
length-predicates l [] h = omega arith
length-predicates l (row ∷ rows) h =
    let more : length (predicate_bytes row ++ flat_map predicate_bytes rows)
    ≡ length (predicate_bytes row) + length (flat_map predicate_bytes rows) =
    length-append (predicate_bytes row) (flat_map predicate_bytes rows) in
    let one : length (predicate_bytes row) ≡ l / 8 = length-predicate row ∙ ap (λ k. k / 8) (h 0 (omega arith)) in
    let rest : length (flat_map predicate_bytes rows) ≡ length rows * (l / 8) =
    length-predicates l rows (λ k low. h (suc k) (omega arith)) in
    let split : (length rows + 1) * (l / 8) ≡ length rows * (l / 8) + 1 * (l / 8) = add-mul (length rows) 1 (l / 8) in
    omega arith

pub length-head : (version : Version) (first x system lengths : List ℕ) → length first ≡ 2 → length x ≡ 31 → length system ≡ 6 → length lengths ≡ 2
    → length (head_bytes version first x system lengths) ≡ 320
length-head version first x system lengths a b c d =
    let tag : length (doublewords_bytes (frame_tag version ∷ [])) ≡ 1 * 8 = length-numbers 8 (frame_tag version ∷ []) in
    let one : length (words_bytes first) ≡ length first * 4 = length-numbers 4 first in
    let two : length (doublewords_bytes x) ≡ length x * 8 = length-numbers 8 x in
    let three : length (doublewords_bytes system) ≡ length system * 8 = length-numbers 8 system in
    let four : length (words_bytes lengths) ≡ length lengths * 4 = length-numbers 4 lengths in
    omega (
      arith,
      length-append (doublewords_bytes (frame_tag version ∷ []))
          (words_bytes first ++ (doublewords_bytes x ++ (doublewords_bytes system ++ words_bytes lengths))),
      length-append (words_bytes first) (doublewords_bytes x ++ (doublewords_bytes system ++ words_bytes lengths)),
      length-append (doublewords_bytes x) (doublewords_bytes system ++ words_bytes lengths),
      length-append (doublewords_bytes system) (words_bytes lengths),
    )

length-array : (za_on : Bool) (s : ℕ) (za : List (List ℕ)) → IsSquare s za
    → length (array_bytes za_on za) ≡ (if za_on then length za * length za else 0)
length-array true s za square =
    length-concat s za (λ k l. square.long k (omega (arith, square.count)))
    ∙ ap (λ k. length za * k) (sym square.count)
length-array false s za square = refl

pub length-ffr : (l : ℕ) (r : VectorRegisters) → length r.ffr ≡ l → l ≤ 256 → length (ffr_bytes l r) ≡ 32
length-ffr l r long small =
    let bytes : length (predicate_bytes r.ffr) ≡ length r.ffr / 8 = length-predicate r.ffr in
    let zeros : length (replicate {A = ℕ} (32 - l / 8) 0) ≡ 32 - l / 8 = length-replicate (32 - l / 8) 0 in
    omega (arith, length-append (predicate_bytes r.ffr) (replicate (32 - l / 8) 0), zeros, bytes, long)

pub length-vector_state : (l s : ℕ) (za_on : Bool) (r : VectorRegisters) (za : List (List ℕ)) → AreOfLength l r → IsSquare s za
    → l ≤ 256 → l % 16 ≡ 0 → length (vector_state_bytes l za_on r za) ≡ body_size l (length za) za_on
length-vector_state l s za_on r za long square small whole =
    let vectors : length (vectors_bytes r) ≡ length r.vectors * l =
    length-concat l r.vectors (λ k low. long.vector_length k (omega (arith, long.vector_count))) in
    let predicates : length (predicates_bytes r) ≡ length r.predicates * (l / 8) =
    length-predicates l r.predicates (λ k low. long.predicate_length k (omega (arith, long.predicate_count))) in
    let some : length r.vectors * l ≡ 32 * l = ap (λ k. k * l) long.vector_count in
    let others : length r.predicates * (l / 8) ≡ 16 * (l / 8) = ap (λ k. k * (l / 8)) long.predicate_count in
    let ffr : length (ffr_bytes l r) ≡ 32 = length-ffr l r long.ffr_length small in
    let array : length (array_bytes za_on za) ≡ (if za_on then length za * length za else 0) = length-array za_on s za square in
    omega (
      arith,
      length-append (vectors_bytes r) (predicates_bytes r ++ (ffr_bytes l r ++ array_bytes za_on za)),
      length-append (predicates_bytes r) (ffr_bytes l r ++ array_bytes za_on za),
      length-append (ffr_bytes l r) (array_bytes za_on za),
    )

pub length-masking : (version : Version) (masking : Masking) → 320 + length (masking_bytes version masking) ≡ head_size version
length-masking One masking = refl
length-masking Two masking = refl

pub least_head : (version : Version) → 320 ≤ head_size version
least_head One = omega arith
least_head Two = omega arith

pub nested_head : (version : Version) → version ≡ Two → head_size version ≡ 336
nested_head version e = ap head_size e
