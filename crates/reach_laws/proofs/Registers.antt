-- Vector registers with a length, of bytes.
use Rattle.std.proofs.Common.{◌≡◌, ℕ, ◌*◌, ◌/◌, ◌%◌, ◌<◌, Bool, false, List, [], length, get_or}
use Rattle.std.proofs.Common.{sym, ap, ◌∙◌, arith, subst, inl, inr, length-set, replicate, slice_set}
use Rattle.std.specs.Prelude.{All}
use Rattle.std.proofs.lemmas.Bool.{cases_lt}
use Rattle.std.proofs.lemmas.List.{get_or_past, length-replicate, get_or-replicate}
use Rattle.std.proofs.lemmas.List.Elements.{All-nil, All-get_or, All-from_get_or, All-set, All-replicate}
use Rattle.vector_elements.specs.declared.size.Size.{Size}
use Rattle.vector_elements.specs.declared.size.Size.TheVariants.{B, H, S, D}
use Rattle.vector_elements.specs.Elements.{element_of, each_element}
use Rattle.vector_elements.specs.Numbers.{bytes_in}
use Rattle.vector_elements.proofs.Lists.{length-bytes, length-listed}
use Rattle.sve_vectors.specs.Predicates.{truths_of}
use Rattle.sve_vectors.specs.Registers.{VectorRegisters, zero_registers, vector_at, truths_at, predicate_at, vector_written}
use Rattle.sve_vectors.specs.Registers.{predicate_written, ffr_written}
use Rattle.sve_vectors.proofs.Writing.{length-truths}
use Rattle.signal_frames.proofs.Lengths.{length-predicate}
use Rattle.sve_perm.specs.Permute.{vector_like, count_of}
use Rattle.reach_laws.proofs.Fits.{AreBytes, Holds}
use Rattle.reach_laws.proofs.Bytes.{are_bytes_of}

-- ---- lengths

pub whole_size : (size : Size) (l : ℕ) → l % 16 ≡ 0 → bytes_in size * (l / bytes_in size) ≡ l
whole_size B l w = omega arith
whole_size H l w = omega arith
whole_size S l w = omega arith
whole_size D l w = omega arith

pub each_long : (size : Size) (bytes : List ℕ) (f : ℕ → ℕ → ℕ) → length bytes % 16 ≡ 0
    → length (each_element (bytes_in size) bytes f) ≡ length bytes
unfolding each_element
each_long size bytes f w =
    length-bytes (bytes_in size) _ ∙ ap (λ n. bytes_in size * n)
    (length-listed (λ i. f i (element_of (bytes_in size) bytes i)) (length bytes / bytes_in size))
    ∙ whole_size size (length bytes) w

pub are_each : (e : ℕ) (bytes : List ℕ) (f : ℕ → ℕ → ℕ) → AreBytes (each_element e bytes f)
unfolding each_element
are_each e bytes f = are_bytes_of e _

pub like_long : (size : Size) (n : List ℕ) (f : ℕ → ℕ) → length n % 16 ≡ 0 → length (vector_like size n f) ≡ length n
unfolding vector_like
like_long size n f w =
    length-bytes (bytes_in size) _ ∙ ap (λ k. bytes_in size * k) (length-listed f (count_of size n)) ∙ whole_size size (length n) w

pub are_like : (size : Size) (n : List ℕ) (f : ℕ → ℕ) → AreBytes (vector_like size n f)
unfolding vector_like
are_like size n f = are_bytes_of (bytes_in size) _

-- ---- reads

module _ (l : ℕ) (r : VectorRegisters) (h : Holds l r) where
  pub vector_long : (n : ℕ) → n < 32 → length (vector_at r n) ≡ l
  vector_long n below = h.long.vector_length n below

  pub vector_bytes_at : (n : ℕ) → AreBytes (vector_at r n)
  vector_bytes_at n = elim (cases_lt n (length r.vectors)) [
    | inl below ↦ All-get_or AreBytes r.vectors n [] below h.bytes
    | inr past ↦ subst AreBytes (sym (get_or_past r.vectors n [] past)) (All-nil (λ b. b < 256))
  ]

  pub predicate_long : (n : ℕ) → n < 16 → length (predicate_at r n) ≡ l / 8
  predicate_long n below = length-predicate (truths_at r n) ∙ ap (λ k. k / 8) (h.long.predicate_length n below)

-- ---- writes

-- each row of a list has a length
each_row : {A : Type 0} (l n count : ℕ) (rows : List (List A)) (row : List A) → length rows ≡ count
    → ((k : ℕ) → k < count → length (get_or rows k []) ≡ l)
    → length row ≡ l → (k : ℕ) → k < count → length (get_or (slice_set rows n row) k []) ≡ l
each_row {A} l n count rows row e h same k below =
    let all : All (λ (x : List A). length x ≡ l) rows = All-from_get_or (λ (x : List A). length x ≡ l) rows []
    (λ i lt. h i (omega arith)) in
    let after = All-set (λ (x : List A). length x ≡ l) rows n row same all in
    All-get_or (λ (x : List A). length x ≡ l) (slice_set rows n row) k [] (let s = length-set rows n row in omega arith) after

pub holds_vector : (l : ℕ) (r : VectorRegisters) (n : ℕ) (bytes : List ℕ) → Holds l r → length bytes ≡ l → AreBytes bytes
    → Holds l (vector_written r n bytes)
holds_vector l r n bytes h same small = record {
  long = record {
    vector_count = length-set r.vectors n bytes ∙ h.long.vector_count;
    vector_length = each_row l n 32 r.vectors bytes h.long.vector_count h.long.vector_length same;
    predicate_count = h.long.predicate_count;
    predicate_length = h.long.predicate_length;
    ffr_length = h.long.ffr_length;
  };
  bytes = All-set AreBytes r.vectors n bytes small h.bytes;
}

pub holds_predicate : (l : ℕ) (r : VectorRegisters) (n : ℕ) (truths : List Bool) → Holds l r → length truths ≡ l
    → Holds l (predicate_written r n truths)
holds_predicate l r n truths h same = record {
  long = record {
    vector_count = h.long.vector_count;
    vector_length = h.long.vector_length;
    predicate_count = length-set r.predicates n truths ∙ h.long.predicate_count;
    predicate_length = each_row l n 16 r.predicates truths h.long.predicate_count h.long.predicate_length same;
    ffr_length = h.long.ffr_length;
  };
  bytes = h.bytes;
}

pub holds_ffr : (l : ℕ) (r : VectorRegisters) (truths : List Bool) → Holds l r → length truths ≡ l → Holds l (ffr_written r truths)
holds_ffr l r truths h same = record {
  long = record {
    vector_count = h.long.vector_count;
    vector_length = h.long.vector_length;
    predicate_count = h.long.predicate_count;
    predicate_length = h.long.predicate_length;
    ffr_length = same;
  };
  bytes = h.bytes;
}

-- a predicate of bytes
pub holds_truths : (l : ℕ) (r : VectorRegisters) (n : ℕ) (bytes : List ℕ) → Holds l r → l % 16 ≡ 0 → length bytes ≡ l / 8
    → Holds l (predicate_written r n (truths_of bytes))
holds_truths l r n bytes h w same = holds_predicate l r n (truths_of bytes) h (length-truths bytes ∙ (omega arith))

-- each element of a vector as a function makes it
pub holds_each : (l : ℕ) (r : VectorRegisters) (d n : ℕ) (size : Size) (f : ℕ → ℕ → ℕ) → Holds l r → l % 16 ≡ 0 → n < 32
    → Holds l (vector_written r d (each_element (bytes_in size) (vector_at r n) f))
holds_each l r d n size f h w below =
    let e = vector_long l r h n below in
    holds_vector l r d _ h (each_long size (vector_at r n) f (ap (λ k. k % 16) e ∙ w) ∙ e) (are_each (bytes_in size) (vector_at r n) f)

pub holds_like : (l : ℕ) (r : VectorRegisters) (d n : ℕ) (size : Size) (f : ℕ → ℕ) → Holds l r → l % 16 ≡ 0 → n < 32
    → Holds l (vector_written r d (vector_like size (vector_at r n) f))
holds_like l r d n size f h w below =
    let e = vector_long l r h n below in
    holds_vector l r d _ h (like_long size (vector_at r n) f (ap (λ k. k % 16) e ∙ w) ∙ e) (are_like size (vector_at r n) f)

-- registers of zeros
pub holds_zero : (l : ℕ) → Holds l (zero_registers l)
unfolding zero_registers
holds_zero l = record {
  long = record {
    vector_count = length-replicate 32 (replicate {A = ℕ} l 0);
    vector_length = λ n below. ap length (get_or-replicate 32 n (replicate {A = ℕ} l 0) [] below) ∙ length-replicate {A = ℕ} l 0;
    predicate_count = length-replicate 16 (replicate l false);
    predicate_length = λ n below. ap length (get_or-replicate 16 n (replicate l false) [] below) ∙ length-replicate l false;
    ffr_length = length-replicate l false;
  };
  bytes = All-replicate AreBytes 32 (replicate l 0) (All-replicate (λ b. b < 256) l 0 (omega arith));
}
