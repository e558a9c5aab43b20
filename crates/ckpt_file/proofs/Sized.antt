-- Lists of bytes of one size, and the bytes of predicates.
use Rattle.std.proofs.Common.{◌≡◌, ℕ, zero, suc, ◌/◌, ◌<◌, ◌++◌, Bool, List, [], ◌∷◌, length, map, take, drop, refl, ap, ◌∙◌, arith}
use Rattle.std.specs.Prelude.{slice_index_or}
use Rattle.std.specs.List.{concat, flat_map}
use Rattle.field_table.specs.Rows.{rows}
use Rattle.sve_vectors.specs.Predicates.{predicate_bytes}
use Rattle.signal_frames.proofs.Lengths.{length-predicate}
use Rattle.ckpt_file.proofs.Filling.{AreOfSize}

-- lists that have a length at each place
pub sized : (n size : ℕ) (vs : List (List ℕ)) → length vs ≡ n → ((k : ℕ) → k < n → length (slice_index_or vs k []) ≡ size)
    → AreOfSize size vs
sized n size [] e h = tt
sized n size (v ∷ vs) e h =
    (h 0 (omega (arith, e)), sized (length vs) size vs refl (λ k l. h (suc k) (omega (arith, e, l))))

taken : (size : ℕ) (v more : List ℕ) → length v ≡ size → take size (v ++ more) ≡ v
taken zero [] more e = refl
taken zero (x ∷ xs) more e = absurd (omega (arith, e))
taken (suc size) [] more e = absurd (omega (arith, e))
taken (suc size) (x ∷ xs) more e = let less : length xs ≡ size = omega (arith, e) in ap (λ l. x ∷ l) (taken size xs more less)

dropped : (size : ℕ) (v more : List ℕ) → length v ≡ size → drop size (v ++ more) ≡ more
dropped zero [] more e = refl
dropped zero (x ∷ xs) more e = absurd (omega (arith, e))
dropped (suc size) [] more e = absurd (omega (arith, e))
dropped (suc size) (x ∷ xs) more e = let less : length xs ≡ size = omega (arith, e) in dropped size xs more less

-- the rows of what they make together are they
pub rows_whole : (n size : ℕ) (vs : List (List ℕ)) → length vs ≡ n → AreOfSize size vs → rows n size (concat vs) ≡ vs
unfolding rows
rows_whole zero size [] e h = refl
rows_whole zero size (v ∷ vs) e h = absurd (omega (arith, e))
rows_whole (suc n) size [] e h = absurd (omega (arith, e))
rows_whole (suc n) size (v ∷ vs) e h =
    let less : length vs ≡ n = omega (arith, e) in
    let front : take size (v ++ concat vs) ≡ v = taken size v (concat vs) h.0 in
    let rest : rows n size (drop size (v ++ concat vs)) ≡ vs =
    ap (rows n size) (dropped size v (concat vs) h.0) ∙ rows_whole n size vs less h.1 in
    λ i. front i ∷ rest i

pub flat_is : {X : Type 0} (f : X → List ℕ) (xs : List X) → flat_map f xs ≡ concat (map f xs)
flat_is f [] = refl
flat_is f (x ∷ xs) = ap (λ l. f x ++ l) (flat_is f xs)

-- ---- predicates

pub sized_predicates : (n size : ℕ) (ps : List (List Bool)) → length ps ≡ n
    → ((k : ℕ) → k < n → length (slice_index_or ps k []) ≡ size) → AreOfSize (size / 8) (map predicate_bytes ps)
sized_predicates n size [] e h = tt
sized_predicates n size (p ∷ ps) e h = (
  length-predicate p ∙ ap (λ k. k / 8) (h 0 (omega (arith, e))),
  sized_predicates (length ps) size ps refl (λ k l. h (suc k) (omega (arith, e, l))),
)
