-- Rows whose elements are written some at a time.
use Rattle.std.proofs.Common.{◌≡◌, ℕ, ◌+◌, ◌*◌, ◌%◌, ◌^◌, ◌<◌, ◌≤◌, List, ◌++◌, length, take, drop, ap, ap₂}
use Rattle.std.proofs.Common.{◌∙◌, sym, arith, ℤ, pos, ◌+ℤ◌, subst}
use Rattle.std.specs.Int.{w32, w64, int_wrap, cast_unsigned}
use Rattle.std.specs.Simd.Lanes.{number_l, digits_l, Each1, put_chunk}
use Rattle.std.proofs.lemmas.Simd.{put_chunk_is, Each1-from_get_or}
use Rattle.plain_lemmas.proofs.Lists.{drop_twice}
use Rattle.vector_elements.specs.declared.size.Size.{Size}
use Rattle.vector_elements.specs.Elements.{listed, element_of, bytes_of}
use Rattle.vector_elements.specs.declared.size.Size.TheVariants.{S, D}
use Rattle.vector_elements.specs.Numbers.{bytes_in, wrapped}
use Rattle.vector_elements.proofs.Lists.{length-bytes, length-listed, listed-at}
use Rattle.vector_elements.proofs.Sixteen.{values_of, lane_bytes, changed_more}
use Rattle.outer_products.specs.Sources.{summed, sixteen_with, IsSummedTo}
use Rattle.outer_products.proofs.Numbers.{wrapped_fits}
use Rattle.outer_products.proofs.Sums.{word_with-is, doubleword_with-is}

-- with some elements more
summed_more : (size : Size) (sums : ℕ → ℤ) (old row new : List ℕ) (c k : ℕ)
    → IsSummedTo size sums old c row → new ≡ sixteen_with size sums c k row → IsSummedTo size sums old (c + k) new
summed_more size sums old row new c k is next = changed_more (bytes_in size) (summed size sums) old row new c k is next

-- the same, with places that are named in two ways
pub summed_next : (size : Size) (sums : ℕ → ℤ) (old row new : List ℕ) (c at k end : ℕ)
    → IsSummedTo size sums old c row → new ≡ sixteen_with size sums at k row → c ≡ at → at + k ≡ end → IsSummedTo size sums old end new
summed_next size sums old row new c at k end is next same last =
    subst (λ e. IsSummedTo size sums old e new) last
    (summed_more size sums old row new at k (subst (λ e. IsSummedTo size sums old e row) same is) next)

-- with four times as many elements more, where each time is told by its number
pub summed_turn : (size : Size) (sums : ℕ → ℤ) (old r0 r1 r2 r3 r4 : List ℕ) (k t : ℕ) → IsSummedTo size sums old (4 * k * t) r0
    → r1 ≡ sixteen_with size sums (k * (4 * t)) k r0 → r2 ≡ sixteen_with size sums (k * (4 * t + 1)) k r1
    → r3 ≡ sixteen_with size sums (k * (4 * t + 2)) k r2 → r4 ≡ sixteen_with size sums (k * (4 * t + 3)) k r3
    → IsSummedTo size sums old (4 * k * (t + 1)) r4
summed_turn size sums old r0 r1 r2 r3 r4 k t is e1 e2 e3 e4 =
    let s1 = summed_next size sums old r0 r1 (4 * k * t) (k * (4 * t)) k (k * (4 * t + 1)) is e1 (omega arith) (omega arith) in
    let s2 = summed_more size sums old r1 r2 (k * (4 * t + 1)) k s1 e2 in
    let s3 = summed_next size sums old r2 r3 (k * (4 * t + 1) + k) (k * (4 * t + 2)) k (k * (4 * t + 3)) s2 e3 (omega arith) (omega arith) in
    summed_next size sums old r3 r4 (k * (4 * t + 3)) (k * (4 * t + 3)) k (4 * k * (t + 1)) s3 e4 (omega arith) (omega arith)

-- an element and its sum, at a place that is named in two ways
pub word_lane_is : (sums : ℕ → ℤ) (row : List ℕ) (k j old : ℕ) (z : ℤ) → k ≡ j → old ≡ element_of 4 row k → z ≡ int_wrap w32 (sums k)
    → (old + cast_unsigned w32 z) % 2 ^ 32 ≡ summed S sums j (element_of 4 row j)
word_lane_is sums row k j old z place same is =
    ap₂ (λ o x. (o + cast_unsigned w32 x) % 2 ^ 32) same is ∙ word_with-is (element_of 4 row k) (sums k)
    ∙ ap (λ i. summed S sums i (element_of 4 row i)) place

pub doubleword_lane_is : (sums : ℕ → ℤ) (row : List ℕ) (k j old : ℕ) (z : ℤ) → k ≡ j → old ≡ element_of 8 row k
    → z ≡ int_wrap w64 (sums k) → (old + cast_unsigned w64 z) % 2 ^ 64 ≡ summed D sums j (element_of 8 row j)
doubleword_lane_is sums row k j old z place same is =
    ap₂ (λ o x. (o + cast_unsigned w64 x) % 2 ^ 64) same is ∙ doubleword_with-is (element_of 8 row k) (sums k)
    ∙ ap (λ i. summed D sums i (element_of 8 row i)) place

all_fit : (size : Size) (z : ℕ → ℤ) (k : ℕ) → Each1 (λ x. x < 256 ^ bytes_in size) (listed (λ j. wrapped size (z j)) k)
all_fit size z k =
    Each1-from_get_or _ (listed (λ j. wrapped size (z j)) k) 0 (λ i below.
    subst (λ x. x < 256 ^ bytes_in size) (sym (listed-at (λ j. wrapped size (z j)) k i 0 (subst (λ n. i < n) (length-listed _ k) below)))
    (subst (λ m. wrapped size (z i) < m) (sym (values_of size)) (wrapped_fits size (z i))))

-- a vector of 16 bytes is stored
pub stored : (size : Size) (sums : ℕ → ℤ) (row xs : List ℕ) (at c k : ℕ)
    → at ≡ bytes_in size * c → bytes_in size * k ≡ 16 → at + 16 ≤ length row
    → xs ≡ listed (λ j. summed size sums (c + j) (element_of (bytes_in size) row (c + j))) k
    → put_chunk at row (digits_l 256 (bytes_in size * length xs) (number_l (256 ^ bytes_in size) xs)) ≡ sixteen_with size sums c k row
stored size sums row xs at c k begin all room is =
    let e = bytes_in size in
    let fits = subst (Each1 (λ x. x < 256 ^ e)) (sym is) (all_fit size (λ j. pos (element_of e row (c + j)) +ℤ sums (c + j)) k) in
    let bytes = lane_bytes e xs fits in
    let count : length xs ≡ k = ap length is ∙ length-listed _ k in
    let long : length (bytes_of e xs) ≡ 16 = length-bytes e xs ∙ ap (λ n. e * n) count ∙ all in
    let far : e * (c + k) ≡ e * c + e * k = omega arith in
    ap (put_chunk at row) bytes ∙ put_chunk_is at row (bytes_of e xs) (omega (arith, long, room))
    ∙ ap₂ (λ a b. take a row ++ (bytes_of e xs ++ b)) begin (drop_twice row at (length (bytes_of e xs)) (e * (c + k))
    (omega (arith, long, far, all, begin)))
    ∙ ap (λ ys. take (e * c) row ++ (bytes_of e ys ++ drop (e * (c + k)) row)) is
