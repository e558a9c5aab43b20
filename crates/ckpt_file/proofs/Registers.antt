-- Registers that are read from bytes, and rows that are taken apart.
use Rattle.std.proofs.Common.{◌≡◌, ℕ, zero, suc, ◌+◌, ◌*◌, ◌<◌, ◌≤◌, ◌++◌, List, [], ◌∷◌, length, map, take, drop, refl, ap, sym, ◌∙◌}
use Rattle.std.proofs.Common.{subst, arith, append_assoc}
use Rattle.std.specs.Prelude.{slice_index}
use Rattle.std.proofs.lemmas.List.{length-take-le, length-drop, get_or-take, get_or-drop, take_all, drop-drop, take-take, drop-take}
use Rattle.byteorder.specs.Endian.{little_number, little_bytes}
use Rattle.byteorder.specs.Numbers.{little_from-take}
use Rattle.field_table.specs.Rows.{rows}
use Rattle.field_table.proofs.Numbers.{number_tells}

-- each is a byte
abbrev pub AreBytes : List ℕ → Type 0
AreBytes bytes = (k : ℕ) → slice_index bytes k < 256

-- a number of 8 bytes is told by them
word_told : (bytes : List ℕ) (x : ℕ) → 8 ≤ length bytes → AreBytes bytes → x ≡ little_number 8 bytes → little_bytes 8 x ≡ take 8 bytes
word_told bytes x long small is =
    let size : length (take 8 bytes) ≡ 8 = length-take-le 8 bytes long in
    let same : little_number 8 (take 8 bytes) ≡ x = little_from-take 0 8 8 bytes (omega arith) ∙ sym is in
    let told : little_bytes (length (take 8 bytes)) (little_number (length (take 8 bytes)) (take 8 bytes)) ≡ take 8 bytes =
    number_tells (take 8 bytes) (λ k l. subst (λ (b : ℕ). b < 256) (sym (get_or-take 8 bytes k 0 (omega (arith, l, size)))) (small k)) in
    ap (little_bytes 8) (sym same) ∙ subst (λ n. little_bytes n (little_number n (take 8 bytes)) ≡ take 8 bytes) size told

pub rows_read : (n : ℕ) (bytes xs : List ℕ) → length xs ≡ n → length bytes ≡ n * 8 → AreBytes bytes
    → ((k : ℕ) → k < length xs → slice_index xs k ≡ little_number 8 (drop (8 * k) bytes)) → map (little_bytes 8) xs ≡ rows n 8 bytes
unfolding rows
rows_read zero bytes [] e l small h = refl
rows_read zero bytes (x ∷ xs) e l small h = absurd (omega (arith, e))
rows_read (suc n) bytes [] e l small h = absurd (omega (arith, e))
rows_read (suc n) bytes (x ∷ xs) e l small h =
    let first : little_bytes 8 x ≡ take 8 bytes = word_told bytes x (omega (arith, l)) small (h 0 (omega arith)) in
    let rest : map (little_bytes 8) xs ≡ rows n 8 (drop 8 bytes) =
    rows_read n (drop 8 bytes) xs (omega (arith, e)) (length-drop 8 bytes ∙ omega (arith, l))
    (λ k. subst (λ (b : ℕ). b < 256) (sym (get_or-drop 8 bytes k 0)) (small (8 + k)))
    (λ k m. h (suc k) (omega (arith, m))
    ∙ ap (little_number 8) (let place : 8 * suc k ≡ 8 + 8 * k = omega arith in ap (λ i. drop i bytes) place
    ∙ sym (drop-drop (8 * k) 8 bytes))) in
    λ i. first i ∷ rest i

-- PC, SP and the others
pub three_parts : (xs : List ℕ) → 2 ≤ length xs → slice_index xs 0 ∷ slice_index xs 1 ∷ drop 2 xs ≡ xs
three_parts [] l = absurd (omega (arith, l))
three_parts (x ∷ []) l = absurd (omega (arith, l))
three_parts (x ∷ y ∷ xs) l = refl

-- all rows but the last one, and the last one
pub rows_split : (n size : ℕ) (bytes : List ℕ) → length bytes ≡ suc n * size
    → rows n size (take (n * size) bytes) ++ drop (n * size) bytes ∷ [] ≡ rows (suc n) size bytes
unfolding rows
rows_split zero size bytes l =
    let none : zero * size ≡ 0 = omega arith in
    let all : length bytes ≤ size = omega (arith, l) in
    ap (λ k. drop k bytes ∷ []) none ∙ ap (λ b. b ∷ []) (sym (take_all size bytes all))
rows_split (suc n) size bytes l =
    let next : suc n * size ≡ size + n * size = omega arith in
    let whole : length bytes ≡ suc n * size + size = omega (arith, l) in
    let left : length (drop size bytes) ≡ suc n * size = length-drop size bytes ∙ omega (arith, whole) in
    let more : size ≤ suc n * size = omega (arith, next) in
    let front : take size (take (suc n * size) bytes) ≡ take size bytes = take-take size (suc n * size) bytes more in
    let middle : drop size (take (suc n * size) bytes) ≡ take (n * size) (drop size bytes) =
    ap (λ k. drop size (take k bytes)) next ∙ drop-take size (n * size) bytes in
    let back : drop (suc n * size) bytes ≡ drop (n * size) (drop size bytes) =
    ap (λ k. drop k bytes) next ∙ sym (drop-drop (n * size) size bytes) in
    let moved : rows n size (drop size (take (suc n * size) bytes)) ++ drop (suc n * size) bytes ∷ []
    ≡ rows n size (take (n * size) (drop size bytes)) ++ drop (n * size) (drop size bytes) ∷ [] =
    λ i. rows n size (middle i) ++ back i ∷ [] in
    let rest : rows n size (drop size (take (suc n * size) bytes)) ++ drop (suc n * size) bytes ∷ [] ≡ rows (suc n) size (drop size bytes) =
    moved ∙ rows_split n size (drop size bytes) left in
    λ i. front i ∷ rest i

-- parts that are put together otherwise
pub regrouped : (a b c r : List (List ℕ)) → (a ++ b) ++ (c ++ r) ≡ (a ++ (b ++ c)) ++ r
regrouped a b c r = simp append_assoc
