-- The bytes of registers, one register after the other.
use Rattle.std.proofs.Common.{◌≡◌, ℕ, ◌+◌, ◌*◌, ◌/◌, ◌<◌, ◌≤◌, List, [], ◌∷◌, ◌++◌, length, get_or, take, ap, sym, ◌∙◌, subst}
use Rattle.std.specs.List.{concat, flat_map}
use Rattle.std.proofs.lemmas.List.{append-nil, take_more, take_all}
use Rattle.std.proofs.lemmas.List.Folds.{concat-append}
use Rattle.sve_vectors.specs.Predicates.{predicate_bytes}
use Rattle.sve_vectors.specs.Registers.{VectorRegisters, AreOfLength}
use Rattle.za_array.specs.Array.{IsSquare}
use Rattle.signal_frames.proofs.Lengths.{length-concat, length-predicates}

-- one more of them
pub rows_more : (rows : List (List ℕ)) (n : ℕ) (bytes : List ℕ) → n < length rows → bytes ≡ concat (take n rows)
    → bytes ++ get_or rows n [] ≡ concat (take (n + 1) rows)
rows_more rows n bytes l is =
    ap (λ b. b ++ get_or rows n []) is
    ∙ ap (λ b. concat (take n rows) ++ b) (sym (append-nil (get_or rows n [])))
    ∙ sym (ap concat (take_more rows n [] l) ∙ concat-append (take n rows) (get_or rows n [] ∷ []))

-- all of them
pub rows_all : (rows : List (List ℕ)) (n : ℕ) → length rows ≤ n → concat (take n rows) ≡ concat rows
rows_all rows n l = ap concat (take_all n rows l)

pub vectors_size : (size : ℕ) (r : VectorRegisters) → AreOfLength size r → length (concat r.vectors) ≡ 32 * size
vectors_size size r h =
    length-concat size r.vectors (λ k l. h.vector_length k (subst (λ n. k < n) h.vector_count l))
    ∙ ap (λ n. n * size) h.vector_count

pub predicates_size : (size : ℕ) (r : VectorRegisters) → AreOfLength size r
    → length (flat_map predicate_bytes r.predicates) ≡ 16 * (size / 8)
predicates_size size r h =
    length-predicates size r.predicates (λ k l. h.predicate_length k (subst (λ n. k < n) h.predicate_count l))
    ∙ ap (λ n. n * (size / 8)) h.predicate_count

pub array_size : (size : ℕ) (rows : List (List ℕ)) → IsSquare size rows → length (concat rows) ≡ size * size
array_size size rows h =
    length-concat size rows (λ k l. h.long k (subst (λ n. k < n) h.count l)) ∙ ap (λ n. n * size) h.count
