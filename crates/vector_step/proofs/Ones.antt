-- Bytes whose bits are all set.
use Rattle.std.proofs.Common.{◌≡◌, ℕ, zero, suc, ◌*◌, ◌/◌, ◌%◌, ◌^◌, ◌<◌, ◌==◌, Bool, true, List, length, replicate, get_or, refl, ap, ◌∙◌}
use Rattle.std.proofs.Common.{sym, arith}
use Rattle.std.proofs.lemmas.List.{same_lists, length-replicate, get_or-replicate}
use Rattle.sve_vectors.specs.Predicates.{truth_at, truths_of}
use Rattle.sve_vectors.proofs.Writing.{length-truths, truths-at}

set_bit : (j : ℕ) → j < 8 → (255 / 2 ^ j % 2 == 1) ≡ true
set_bit zero lt = refl
set_bit (suc zero) lt = refl
set_bit (suc (suc zero)) lt = refl
set_bit (suc (suc (suc zero))) lt = refl
set_bit (suc (suc (suc (suc zero)))) lt = refl
set_bit (suc (suc (suc (suc (suc zero))))) lt = refl
set_bit (suc (suc (suc (suc (suc (suc zero)))))) lt = refl
set_bit (suc (suc (suc (suc (suc (suc (suc zero))))))) lt = refl
set_bit (suc (suc (suc (suc (suc (suc (suc (suc j)))))))) lt = absurd (omega (arith, lt))

set_truth : (bytes : List ℕ) → ((k : ℕ) → k < length bytes → get_or bytes k 0 ≡ 255) → (i : ℕ) → i < 8 * length bytes
    → truth_at bytes i ≡ true
unfolding truth_at
set_truth bytes ones i lt = ap (λ byte. byte / 2 ^ (i % 8) % 2 == 1) (ones (i / 8) (omega arith)) ∙ set_bit (i % 8) (omega arith)

-- bytes of ones say that everything holds
pub truths_of_ones : (n : ℕ) → truths_of (replicate n 255) ≡ replicate (8 * n) true
truths_of_ones n = same_lists _ _ long each
  where
    bytes : List ℕ
    bytes = replicate n 255

    count : length bytes ≡ n
    count = length-replicate n 255

    long : length (truths_of bytes) ≡ length (replicate (8 * n) true)
    long = length-truths bytes ∙ ap (λ k. 8 * k) count ∙ sym (length-replicate (8 * n) true)

    each : (i : ℕ) (d : Bool) → i < length (truths_of bytes)
        → get_or (truths_of bytes) i d ≡ get_or (replicate (8 * n) true) i d
    each i d lt =
        let below : i < 8 * length bytes = omega (arith, lt, length-truths bytes) in
        truths-at bytes i d below
        ∙ set_truth bytes (λ k l. get_or-replicate n k 255 0 (omega (arith, count))) i below
        ∙ sym (get_or-replicate (8 * n) i true d (omega (arith, count)))
