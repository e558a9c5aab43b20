-- ZA after some slices are loaded.
use Rattle.std.proofs.Common.{◌≡◌, ◌≢◌, inl, inr, ℕ, zero, suc, ◌+◌, ◌-◌, ◌*◌, ◌<◌, ◌≤◌}
use Rattle.std.proofs.Common.{List, [], length, None, refl, ap, sym, ◌∙◌, arith}
use Rattle.std.specs.Prelude.{slice_index_or, slice_set}
use Rattle.std.proofs.lemmas.List.{length-set, get_or-set_same, get_or-set_other}
use Rattle.std.proofs.lemmas.Nat.{row_fits}
use Rattle.plain_lemmas.proofs.Numbers.{cases_lt_suc}
use Rattle.paged_memory.specs.Memory.{AddressSpace, first_without, run_of}
use Rattle.mem_access.specs.Runs.{first_shared}
use Rattle.sve_access.specs.After.{read_bytes}
use Rattle.lazy_saving.proofs.Memory.{without_part, shared_part}
use Rattle.lazy_saving.proofs.Pieces.{piece_of}

-- the piece of a slice can be read as the whole buffer can
pub piece_there : (m : AddressSpace) (a size n i : ℕ) → i < n → first_without 4 m a (n * size) ≡ None
    → first_without 4 m (piece_of a size i) size ≡ None
piece_there m a size n i l h =
    let room = row_fits i size n size l (omega arith) in
    let e : i * size + (size + (n * size - i * size - size)) ≡ n * size = omega (arith, room) in
    without_part 4 m a (i * size) size (n * size - i * size - size) (ap (first_without 4 m a) e ∙ h)

pub piece_private : (a size n i : ℕ) → i < n → first_shared a (n * size) ≡ None → first_shared (piece_of a size i) size ≡ None
piece_private a size n i l h =
    let room = row_fits i size n size l (omega arith) in
    let e : i * size + (size + (n * size - i * size - size)) ≡ n * size = omega (arith, room) in
    shared_part a (i * size) size (n * size - i * size - size) (ap (first_shared a) e ∙ h)

module _ (m : AddressSpace) (a size : ℕ) (za : List (List ℕ)) where
  -- ZA after i slices
  pub loaded : ℕ → List (List ℕ)
  loaded zero = za
  loaded (suc i) = slice_set (loaded i) i (read_bytes m (run_of (piece_of a size i) size))

  pub none_loaded : loaded 0 ≡ za
  unfolding loaded
  none_loaded = refl

  pub one_more_loaded : (i k : ℕ) → k ≡ size
      → slice_set (loaded i) i (read_bytes m (run_of (piece_of a size i) k)) ≡ loaded (suc i)
  unfolding loaded
  one_more_loaded i k e = ap (λ n. slice_set (loaded i) i (read_bytes m (run_of (piece_of a size i) n))) e

  pub length_loaded : (i : ℕ) → length (loaded i) ≡ length za
  unfolding loaded
  length_loaded zero = refl
  length_loaded (suc i) = length-set (loaded i) i (read_bytes m (run_of (piece_of a size i) size)) ∙ length_loaded i

  -- a slice that is not loaded stays
  pub slice_stays : (j i : ℕ) → j ≤ i → slice_index_or (loaded j) i [] ≡ slice_index_or za i []
  unfolding loaded
  slice_stays zero i l = refl
  slice_stays (suc j) i l =
      let apart : i ≢ j = λ e. absurd (omega (arith, l, e)) in
      get_or-set_other (loaded j) j i (read_bytes m (run_of (piece_of a size j) size)) [] apart ∙ slice_stays j i (omega (arith, l))

  -- one that is has its piece of the buffer
  pub slice_there : (j i : ℕ) → i < j → j ≤ length za
      → slice_index_or (loaded j) i [] ≡ read_bytes m (run_of (piece_of a size i) size)
  unfolding loaded
  slice_there zero i lt l = absurd (omega (arith, lt))
  slice_there (suc j) i lt l = elim (cases_lt_suc i j lt) [
    | inl e ↦
        let long = length_loaded j in
        ap (λ k. slice_index_or (slice_set (loaded j) j (read_bytes m (run_of (piece_of a size j) size))) k []) e
        ∙ get_or-set_same (loaded j) j (read_bytes m (run_of (piece_of a size j) size)) [] (omega (arith, long, l))
        ∙ ap (λ k. read_bytes m (run_of (piece_of a size k) size)) (sym e)
    | inr before ↦
        let apart : i ≢ j = λ e. absurd (omega (arith, before, e)) in
        get_or-set_other (loaded j) j i (read_bytes m (run_of (piece_of a size j) size)) [] apart
        ∙ slice_there j i before (omega (arith, l))
  ]
