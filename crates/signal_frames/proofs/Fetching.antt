-- Parts of a frame that are read one after the other.
use Rattle.std.proofs.Common.{◌≡◌, ℕ, zero, suc, ◌+◌, ◌-◌, ◌*◌, ◌%◌, ◌^◌, ◌<◌, ◌≤◌, List, [], ◌∷◌, ◌++◌}
use Rattle.std.proofs.Common.{length, take, drop, set, get_or, Option, Some, None, refl, ap, sym, ◌∙◌, arith, append_assoc}
use Rattle.std.proofs.lemmas.List.{take_at, drop_at, drop_more, set_at, length_push}
use Rattle.std.proofs.lemmas.List.FromFn.{length-map-range_with_len, map-range_with_len_more}
use Rattle.std.specs.Prelude.{map}
use Rattle.std.specs.List.{range_with_len}
use Rattle.paged_memory.specs.Memory.{AddressSpace, bytes_with, byte_with, and_byte}
use Rattle.paged_memory.proofs.Accesses.{bytes_with-join, joined}
use Rattle.signal_frames.specs.Saved.{part_of, saved_vector, saved_predicate, saved_ffr, saved_registers}
use Rattle.std.proofs.Common.{Bool}
use Rattle.std.proofs.lemmas.List.{drop_all, append-nil}
use Rattle.std.proofs.Math.Nat.{mul-le-mul_right, add-mul}
use Rattle.sve_vectors.specs.Predicates.{truths_of}
use Rattle.sve_vectors.specs.Lengths.{current_bytes}
use Rattle.sve_vectors.specs.State.{SveState, length_of, with_vector, with_predicate, with_ffr, with_streaming}
use Rattle.machine_step.proofs.Modes.{mode_written, lengths_kept}
use Rattle.sve_vectors.specs.Lending.{with_vector_bytes, with_predicate_bytes}
use Rattle.sve_vectors.proofs.Whole.{vector_whole, predicate_whole}
use Rattle.za_array.specs.Array.{ArrayState, with_array_vector}
use Rattle.za_array.specs.Lending.{with_array_bytes}
use Rattle.za_array.proofs.Whole.{array_whole}
use Rattle.signal_frames.specs.Reading.{StandsAt, KeepsLengths, with_vectors, with_predicates, rows_from}

long_and : (o : Option (List ℕ)) (b : Option ℕ) (n : ℕ) (bs : List ℕ) → ((xs : List ℕ) → o ≡ Some xs → length xs ≡ n)
    → and_byte o b ≡ Some bs → length bs ≡ suc n
long_and None b n bs f h = cc
long_and (Some xs) None n bs f h = cc
long_and (Some xs) (Some b) n bs f h =
    let is : xs ++ b ∷ [] ≡ bs = cc in
    let long : length xs ≡ n = f xs refl in
    omega (arith, length_push xs b, ap length is)

pub length-bytes_with : (need : ℕ) (m : AddressSpace) (a n : ℕ) (bs : List ℕ) → bytes_with need m a n ≡ Some bs → length bs ≡ n
unfolding bytes_with
length-bytes_with need m a zero bs h = let is : [] ≡ bs = cc in sym (ap length is)
length-bytes_with need m a (suc n) bs h =
    long_and (bytes_with need m a n) (byte_with need m ((a + n) % 2 ^ 64)) n bs (λ xs e. length-bytes_with need m a n xs e) h

-- two runs that make one
pub record Runs (first second : Option (List ℕ)) (all : List ℕ) : Type 0 where
  pub front : List ℕ
  pub rest : List ℕ
  pub one : first ≡ Some front
  pub two : second ≡ Some rest
  pub is : all ≡ front ++ rest

pub runs : (first second : Option (List ℕ)) (all : List ℕ) → joined first second ≡ Some all → Runs first second all
runs None second all h = cc
runs (Some front) None all h = cc
runs (Some front) (Some rest) all h = record { front = front; rest = rest; one = refl; two = refl; is = cc }

pub runs_of : (need : ℕ) (m : AddressSpace) (a d n : ℕ) (all : List ℕ) → bytes_with need m a (d + n) ≡ Some all
    → Runs (bytes_with need m a d) (bytes_with need m ((a + d) % 2 ^ 64) n) all
runs_of need m a d n all h =
    runs (bytes_with need m a d) (bytes_with need m ((a + d) % 2 ^ 64) n) all (sym (bytes_with-join need m a d n) ∙ h)

pub rest_read : (m : AddressSpace) (a d n : ℕ) (all : List ℕ) → bytes_with 4 m a (d + n) ≡ Some all
    → bytes_with 4 m ((a + d) % 2 ^ 64) n ≡ Some (drop d all)
rest_read m a d n all h =
    let r : Runs (bytes_with 4 m a d) (bytes_with 4 m ((a + d) % 2 ^ 64) n) all = runs_of 4 m a d n all h in
    r.two ∙ ap Some (sym (ap (drop d) r.is ∙ drop_at r.front r.rest d (length-bytes_with 4 m a d r.front r.one)))

pub front_read : (m : AddressSpace) (a d n : ℕ) (all : List ℕ) → bytes_with 4 m a (d + n) ≡ Some all
    → bytes_with 4 m a d ≡ Some (take d all)
front_read m a d n all h =
    let r : Runs (bytes_with 4 m a d) (bytes_with 4 m ((a + d) % 2 ^ 64) n) all = runs_of 4 m a d n all h in
    r.one ∙ ap Some (sym (ap (take d) r.is ∙ take_at r.front r.rest d (length-bytes_with 4 m a d r.front r.one)))

-- a part of a frame is read at its offset
pub part_read : (m : AddressSpace) (start offset n at count : ℕ) (frame : List ℕ) → StandsAt m start frame → offset + n ≤ length frame
    → at ≡ (start + offset) % 2 ^ 64 → count ≡ n → bytes_with 4 m at count ≡ Some (part_of frame offset n)
part_read m start offset n at count frame stands fits is many =
    let e : length frame ≡ offset + (n + (length frame - (offset + n))) = omega arith in
    let whole : bytes_with 4 m start (offset + (n + (length frame - (offset + n)))) ≡ Some frame = rw e at stands.bytes in
    let rest : bytes_with 4 m ((start + offset) % 2 ^ 64) (n + (length frame - (offset + n))) ≡ Some (drop offset frame) =
    rest_read m start offset (n + (length frame - (offset + n))) frame whole in
    rw (is, many) (front_read m ((start + offset) % 2 ^ 64) n (length frame - (offset + n)) (drop offset frame) rest)

-- one more row of a list is that of a function, the rows after it being as they were
pub row_set : {A : Type 0} (f : ℕ → A) (old : List A) (n : ℕ) (d x : A) → n < length old → x ≡ f n
    → set (map f (range_with_len 0 n) ++ drop n old) n x ≡ map f (range_with_len 0 (n + 1)) ++ drop (n + 1) old
row_set {A} f old n d x l is =
    ap (λ k. set (map f (range_with_len 0 n) ++ k) n x) (drop_more old n d l)
    ∙ set_at (map f (range_with_len 0 n)) (get_or old n d) (drop (n + 1) old) x n (length-map-range_with_len f 0 n)
    ∙ ap (λ k. map f (range_with_len 0 n) ++ k ∷ drop (n + 1) old) is
    ∙ sym (append_assoc (map f (range_with_len 0 n)) (f n ∷ []) (drop (n + 1) old))
    ∙ ap (λ k. k ++ drop (n + 1) old) (sym (map-range_with_len_more f 0 n n (omega arith)))

pub rows_all : {A : Type 0} (f : ℕ → A) (old : List A) (n count : ℕ) → length old ≡ count → n ≡ count
    → rows_from f n old ≡ map f (range_with_len 0 count)
rows_all {A} f old n count long e =
    ap (λ k. map f (range_with_len 0 n) ++ k) (drop_all n old (omega arith)) ∙ append-nil (map f (range_with_len 0 n))
    ∙ ap (λ k. map f (range_with_len 0 k)) e

pub row_fits : (n count l : ℕ) → n < count → n * l + l ≤ count * l
row_fits n count l h =
    let step : (n + 1) * l ≤ count * l = mul-le-mul_right l (omega arith) in
    let split : (n + 1) * l ≡ n * l + 1 * l = add-mul n 1 l in
    omega arith

pub same_length : (old new : SveState) → KeepsLengths old new → length_of new ≡ length_of old
same_length old new h = rw (h.vl, h.svl, h.streaming) refl

-- ---- one row more that was read

pub vectors_step : (s old : SveState) (n : ℕ) (bytes : List ℕ) (f : ℕ → List ℕ) → n < length old.registers.vectors
    → s ≡ with_vectors old (rows_from f n old.registers.vectors) → length bytes ≡ length (get_or s.registers.vectors n [])
    → bytes ≡ f n → with_vector_bytes s n bytes ≡ with_vectors old (rows_from f (n + 1) old.registers.vectors)
vectors_step s old n bytes f l before long is =
    vector_whole s n bytes long ∙ ap (λ k. with_vector k n bytes) before
    ∙ ap (with_vectors old) (row_set f old.registers.vectors n [] bytes l is)

pub predicates_step : (s old : SveState) (n : ℕ) (was bytes : List ℕ) (f : ℕ → List Bool) → n < length old.registers.predicates
    → s ≡ with_predicates old (rows_from f n old.registers.predicates) → truths_of was ≡ get_or s.registers.predicates n []
    → length bytes ≡ length was → truths_of bytes ≡ f n
    → with_predicate_bytes s n bytes ≡ with_predicates old (rows_from f (n + 1) old.registers.predicates)
predicates_step s old n was bytes f l before there long is =
    predicate_whole s n was bytes there long ∙ ap (λ k. with_predicate k n (truths_of bytes)) before
    ∙ ap (with_predicates old) (row_set f old.registers.predicates n [] (truths_of bytes) l is)

pub array_step : (s old : ArrayState) (n : ℕ) (bytes : List ℕ) (f : ℕ → List ℕ) → n < length old.vectors
    → s ≡ record old { vectors = rows_from f n old.vectors } → length bytes ≡ length (get_or s.vectors n []) → bytes ≡ f n
    → with_array_bytes s n bytes ≡ record old { vectors = rows_from f (n + 1) old.vectors }
array_step s old n bytes f l before long is =
    array_whole s n bytes long ∙ ap (λ k. with_array_vector k n bytes) before
    ∙ ap (λ k. record old { vectors = k }) (row_set f old.vectors n [] bytes l is)

-- ---- the registers that were read

pub registers_are : (v0 v1 v2 v3 : SveState) (l : ℕ) (frame : List ℕ) → length_of v0 ≡ l → KeepsLengths v0 v1 → KeepsLengths v1 v2
    → v1 ≡ with_vectors v0 (map (saved_vector (length_of v0) frame) (range_with_len 0 32))
    → v2 ≡ with_predicates v1 (map (saved_predicate (length_of v1) frame) (range_with_len 0 16))
    → v3 ≡ with_ffr v2 (saved_ffr (length_of v2) frame) → v3.registers ≡ saved_registers l frame
unfolding saved_registers
registers_are v0 v1 v2 v3 l frame long first second vectors predicates ffr =
    let one : length_of v1 ≡ l = same_length v0 v1 first ∙ long in
    let two : length_of v2 ≡ l = same_length v1 v2 second ∙ one in
    let z : ℕ → List (List ℕ) = λ k. map (saved_vector k frame) (range_with_len 0 32) in
    let p : ℕ → List (List Bool) = λ k. map (saved_predicate k frame) (range_with_len 0 16) in
    let f : ℕ → List Bool = λ k. saved_ffr k frame in
    ap (λ (s : SveState). s.registers) (ffr ∙ ap (λ k. with_ffr v2 (f k)) two)
    ∙ ap (λ (s : SveState). (with_ffr s (f l)).registers) (predicates ∙ ap (λ k. with_predicates v1 (p k)) one)
    ∙ ap (λ (s : SveState). (with_ffr (with_predicates s (p l)) (f l)).registers) (vectors ∙ ap (λ k. with_vectors v0 (z k)) long)

pub length_written : (v w : SveState) (on : Bool) → w ≡ with_streaming v on → length_of w ≡ current_bytes v.vl v.svl on
length_written v w on is = rw ((lengths_kept v w on is).0, (lengths_kept v w on is).1, mode_written v w on is) refl
