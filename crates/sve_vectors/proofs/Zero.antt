-- Registers of zeros.
use Rattle.std.proofs.Common.{◌≡◌, ℕ, ◌*◌, ◌<◌, ◌≤◌, ◌/◌, Bool, false, List, [], length, take, map, get_or, replicate, ap, ◌∙◌, sym, arith}
use Rattle.std.proofs.lemmas.List.{get_or-map, length-map, length-replicate, get_or-replicate, take-replicate, same_lists}
use Rattle.sm_types.specs.declared.length.VecLen.{VecLen}
use Rattle.sve_vectors.specs.Lengths.{current_bytes}
use Rattle.sve_vectors.specs.Predicates.{truths_of}
use Rattle.sve_vectors.specs.Registers.{zero_registers}
use Rattle.sve_vectors.specs.Layout.{registers_of_rows, AreRows, ClearedRows}
use Rattle.sve_vectors.proofs.Held.{whole_current}
use Rattle.sve_vectors.proofs.Writing.{truths-replicate}

-- the first bytes of so many rows are zero
pub record AreZero (n size : ℕ) (rows : List (List ℕ)) : Type 0 where
  pub count : length rows ≡ n
  pub zero : (k : ℕ) → k < n → take size (get_or rows k []) ≡ replicate size 0

pub zero_rows_are : (m size : ℕ) (rows : List (List ℕ)) → rows ≡ replicate m (replicate size 0) → AreRows m size rows
zero_rows_are m size rows e = record {
  count = ap length e ∙ length-replicate m (replicate size 0);
  long = λ k lt. ap (λ (t : List (List ℕ)). length (get_or t k [])) e ∙ ap length (get_or-replicate m k (replicate size 0) [] lt)
      ∙ length-replicate {A = ℕ} size 0;
}

pub zero_fronts : (m size room : ℕ) (rows : List (List ℕ)) → rows ≡ replicate m (replicate room 0) → size ≤ room → AreZero m size rows
zero_fronts m size room rows e le = record {
  count = ap length e ∙ length-replicate m (replicate room 0);
  zero = λ k lt. ap (λ (t : List (List ℕ)). take size (get_or t k [])) e
      ∙ ap (take size) (get_or-replicate m k (replicate room 0) [] lt) ∙ take-replicate size room 0 le;
}

pub cleared_fronts : (m size : ℕ) (old new : List (List ℕ)) → length old ≡ m → ClearedRows size old new → AreZero m size new
cleared_fronts m size old new e h = record {
  count = h.count ∙ e;
  zero = λ k lt. h.zero k (omega arith);
}

mapped : {A : Type 0} (f : List ℕ → A) (x : A) (n : ℕ) (rows : List (List ℕ)) → length rows ≡ n
    → ((k : ℕ) → k < n → f (get_or rows k []) ≡ x) → map f rows ≡ replicate n x
mapped {A} f x n rows e h = same_lists _ _ (length-map rows f ∙ e ∙ sym (length-replicate n x)) each
  where
    each : (k : ℕ) (d : A) → k < length (map f rows) → get_or (map f rows) k d ≡ get_or (replicate n x) k d
    each k d lt =
        let below : k < n = omega (arith, length-map rows f) in
        get_or-map f rows k [] d (omega arith) ∙ h k below ∙ sym (get_or-replicate n k x d below)

pub registers_of_rows-zero : (bytes : ℕ) (z p : List (List ℕ)) (ffr : List ℕ) → 8 * (bytes / 8) ≡ bytes → AreZero 32 bytes z
    → AreZero 16 (bytes / 8) p
    → take (bytes / 8) ffr ≡ replicate (bytes / 8) 0 → registers_of_rows bytes z p ffr ≡ zero_registers bytes
unfolding registers_of_rows zero_registers
registers_of_rows-zero bytes z p ffr eights hz hp hf =
    let nothing : truths_of (replicate (bytes / 8) 0) ≡ replicate bytes false = truths-replicate (bytes / 8)
    ∙ ap (λ n. replicate n false) eights in
    let vectors = mapped (take bytes) (replicate bytes 0) 32 z hz.count hz.zero in
    let predicates = mapped (λ row. truths_of (take (bytes / 8) row)) (replicate bytes false) 16 p hp.count
    (λ k lt. ap truths_of (hp.zero k lt) ∙ nothing) in
    let last = ap truths_of hf ∙ nothing in
    λ i. record { vectors = vectors i; predicates = predicates i; ffr = last i }

-- the state after a change of mode
pub eights : (vl svl : VecLen) (on : Bool) → 8 * (current_bytes vl svl on / 8) ≡ current_bytes vl svl on
eights vl svl on = omega (arith, (whole_current vl svl on).0)
