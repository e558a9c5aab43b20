-- Registers and handlers of plain fields.
use Rattle.std.proofs.Common.{◌≡◌, ℕ, zero, suc, ◌+◌, ◌*◌, ◌/◌, ◌%◌, ◌^◌, ◌<◌, ◌≤◌, ◌==◌, Bool, true, false, cond, min, List, [], ◌∷◌, ◌++◌, None, inl, inr}
use Rattle.std.proofs.Common.{length, get_or, take, drop, map, refl, ap, ap₂, sym, ◌∙◌, subst, arith}
use Rattle.std.proofs.lemmas.Bool.{cases_Bool, both_ways}
use Rattle.std.proofs.lemmas.Bool.Decides.{nat_tests}
use Rattle.std.proofs.lemmas.Grind.{flat_map-append, common_steps}
use Rattle.std.proofs.Math.Seq.{take-length}
use Rattle.std.proofs.lemmas.List.{append-nil, take_more, get_or-take, get_or-drop, length-take, length-drop, length-take-le}
use Rattle.std.proofs.lemmas.List.Folds.{concat-append}
use Rattle.std.proofs.lemmas.List.FromFn.{map-range_with_len_more}
use Rattle.std.proofs.lemmas.Option.{slice_get-get_or}
use Rattle.std.specs.List.{concat, flat_map}
use Rattle.std.specs.FinMap.{FinMap, find, get-entries, put, entries, insert, remove, entries-insert}
use Rattle.std.specs.Cmp.{nat_cmp_total}
use Rattle.std.specs.Ordering.{nat_cmp, eq_by_cmp}
use Rattle.std.specs.declared.cmp.Ordering.TheVariants.{Greater}
use Rattle.bit_ops.specs.Sums.{bool_number}
use Rattle.sm_types.specs.declared.scalars.Scalars.{Scalars}
use Rattle.machine_step.specs.System.{nzcv_of, bit_at}
use Rattle.sve_vectors.specs.Predicates.{predicate_bytes, truths_of}
use Rattle.sve_vectors.proofs.Bits.{predicate_bytes-truths}
use Rattle.kernel_contexts.specs.Handlers.{is_signal, with_handler}
use Rattle.kernel_contexts.specs.Watch.{AreOfSignals}
use Rattle.kernel_contexts.specs.LooseState.{AreHandlers, handler_entry}
use Rattle.kernel_contexts.specs.LooseParts.{piece, pieces, truths_at, truths_in, HasRegisters}
use Rattle.kernel_contexts.specs.declared.loose_state.LooseState.{LooseState}
use Rattle.sve_vectors.specs.Registers.{VectorRegisters, AreOfLength}
use Rattle.sve_vectors.specs.State.{SveState, length_of, with_ffr}
use Rattle.signal_frames.specs.Reading.{with_vectors, with_predicates}
use Rattle.sm_types.specs.declared.length.VecLen.{VecLen}
use Rattle.za_array.specs.Array.{ArrayState, zero_array}
use Rattle.kernel_contexts.specs.declared.loose_state.Handler.{Handler}

-- ---- pieces

none_taken : (n : ℕ) → ◌≡◌ {A = List ℕ} (take n []) []
none_taken zero = refl
none_taken (suc n) = refl

-- two runs from the front of a list
two_taken : (m n : ℕ) (xs : List ℕ) → take m xs ++ take n (drop m xs) ≡ take (m + n) xs
two_taken zero n xs = let z : 0 + n ≡ n = omega arith in rw z refl
two_taken (suc m) n [] = let s : suc m + n ≡ suc (m + n) = omega arith in rw s (none_taken n)
two_taken (suc m) n (x ∷ xs) =
    let s : suc m + n ≡ suc (m + n) = omega arith in rw s (ap (λ l. x ∷ l) (two_taken m n xs))

next_place : (n size : ℕ) → n * size + size ≡ suc n * size
next_place n size = omega arith

pub pieces_joined : (size : ℕ) (bytes : List ℕ) (n : ℕ) → concat (pieces size bytes n) ≡ take (n * size) bytes
pieces_joined size bytes zero = let none : zero * size ≡ 0 = omega arith in rw none refl
pieces_joined size bytes (suc n) =
    let next : suc n ≡ n + 1 = omega arith in
    ap (λ k. concat (pieces size bytes k)) next
    ∙ ap concat (map-range_with_len_more (piece size bytes) 0 n n (omega arith))
    ∙ concat-append (pieces size bytes n) (piece size bytes n ∷ [])
    ∙ ap₂ (λ a b. a ++ b) (pieces_joined size bytes n) (append-nil (piece size bytes n))
    ∙ two_taken (n * size) size bytes
    ∙ ap (λ k. take k bytes) (next_place n size)

-- the pieces of a list that has just so many are the list
pub pieces_whole : (size n : ℕ) (bytes : List ℕ) → length bytes ≡ n * size → concat (pieces size bytes n) ≡ bytes
pieces_whole size n bytes long =
    pieces_joined size bytes n ∙ ap (λ k. take k bytes) (sym long) ∙ take-length bytes

-- each byte is one
abbrev pub AreBytes : List ℕ → Type 0
AreBytes bytes = (k : ℕ) → k < length bytes → get_or bytes k 0 < 256

piece_bytes : (size : ℕ) (bytes : List ℕ) (n : ℕ) → AreBytes bytes → AreBytes (piece size bytes n)
piece_bytes size bytes n small k l =
    let there : k < min size (length (drop (n * size) bytes)) = subst (λ (m : ℕ). k < m) (length-take size (drop (n * size) bytes)) l in
    let short : k < length (drop (n * size) bytes) = grind (arith, common_steps) in
    let inside : k < size = grind (arith, common_steps) in
    subst (λ (b : ℕ). b < 256)
    (sym (get_or-take size (drop (n * size) bytes) k 0 inside ∙ get_or-drop (n * size) bytes k 0))
    (small (n * size + k) (omega (arith, short, length-drop (n * size) bytes)))

pub truths_joined : (size : ℕ) (bytes : List ℕ) (n : ℕ) → AreBytes bytes
    → flat_map predicate_bytes (truths_in size bytes n) ≡ take (n * size) bytes
truths_joined size bytes zero small = let none : zero * size ≡ 0 = omega arith in rw none refl
truths_joined size bytes (suc n) small =
    let next : suc n ≡ n + 1 = omega arith in
    ap (λ k. flat_map predicate_bytes (truths_in size bytes k)) next
    ∙ ap (flat_map predicate_bytes) (map-range_with_len_more (truths_at size bytes) 0 n n (omega arith))
    ∙ flat_map-append predicate_bytes (truths_in size bytes n) (truths_at size bytes n ∷ [])
    ∙ ap₂ (λ a b. a ++ b) (truths_joined size bytes n small)
    (append-nil (predicate_bytes (truths_at size bytes n))
    ∙ predicate_bytes-truths (piece size bytes n) (piece_bytes size bytes n small))
    ∙ two_taken (n * size) size bytes
    ∙ ap (λ k. take k bytes) (next_place n size)

pub truths_whole : (size n : ℕ) (bytes : List ℕ) → AreBytes bytes → length bytes ≡ n * size
    → flat_map predicate_bytes (truths_in size bytes n) ≡ bytes
truths_whole size n bytes small long =
    truths_joined size bytes n small ∙ ap (λ k. take k bytes) (sym long) ∙ take-length bytes

-- ---- handlers

-- an entry of a later key than all others comes last
put_last : (k a : ℕ) (es : List (ℕ × ℕ)) → ((i : ℕ) (d : ℕ × ℕ) → i < length es → (get_or es i d).0 < k)
    → put nat_cmp k a es ≡ es ++ (k, a) ∷ []
put_last k a [] h = refl
put_last k a (e ∷ es) h =
    let first : e.0 < k = h 0 e (omega arith) in
    let later : nat_cmp k e.0 ≡ Greater = grind (arith, nat_tests) in
    rw later (ap (λ l. e ∷ l) (put_last k a es (λ i d l. h (suc i) d (omega (arith, l)))))

length-entries : (list : List Handler) → length (map handler_entry list) ≡ length list
length-entries [] = refl
length-entries (h ∷ list) = ap suc (length-entries list)

entry_at : (list : List Handler) (k : ℕ) (d : ℕ × ℕ) (e : Handler) → k < length list
    → get_or (map handler_entry list) k d ≡ handler_entry (get_or list k e)
entry_at [] k d e l = absurd (omega arith)
entry_at (h ∷ list) zero d e l = refl
entry_at (h ∷ list) (suc k) d e l = entry_at list k d e (omega arith)

entry_more : (list : List Handler) (h : Handler) → map handler_entry (list ++ h ∷ []) ≡ map handler_entry list ++ handler_entry h ∷ []
entry_more [] h = refl
entry_more (g ∷ list) h = ap (λ l. handler_entry g ∷ l) (entry_more list h)

-- no handler
abbrev pub no_handler : Handler
no_handler = record { signal = 0; address = 0 }

-- those before one have a lower signal
earlier_lower : (list : List Handler) (i : ℕ) (e : Handler) → AreHandlers list → i < length list → (k : ℕ) (d : ℕ × ℕ)
    → k < length (map handler_entry (take i list)) → (get_or (map handler_entry (take i list)) k d).0 < (get_or list i e).signal
earlier_lower list i e good l k d m =
    let long : length (take i list) ≡ i = length-take-le i list (omega arith) in
    let low : k < i = omega (arith, m, length-entries (take i list), long) in
    let order : (get_or list k e).signal < (get_or list i e).signal =
    good.ascending k i (get_or list k e) (get_or list i e) low (slice_get-get_or list k e (omega (arith, low, l)))
    (slice_get-get_or list i e l) in
    let there : get_or (map handler_entry (take i list)) k d ≡ handler_entry (get_or list k e) =
    entry_at (take i list) k d e (omega (arith, low, long)) ∙ ap handler_entry (get_or-take i list k e low) in
    subst (λ (x : ℕ × ℕ). x.0 < (get_or list i e).signal) (sym there) order

-- the number of a signal is below 63
pub signal_below : (n : ℕ) → is_signal n ≡ true → n < 63
signal_below n h = grind (arith, nat_tests)

-- handlers among which all those before one are set, and then that one
pub handlers_more : (m next : FinMap nat_cmp ℕ) (list : List Handler) (i : ℕ) (e : Handler) → AreHandlers list → i < length list
    → next ≡ with_handler m (get_or list i e).signal (get_or list i e).address → entries m ≡ map handler_entry (take i list)
    → entries next ≡ map handler_entry (take (i + 1) list)
unfolding with_handler
handlers_more m next list i e good l set before =
    let h : Handler = get_or list i e in
    let given : 1 ≤ h.address = (good.each i e l).address in
    let some : (h.address == 0) ≡ false = grind (arith, nat_tests) in
    ap entries set
    ∙ ap (λ b. entries (cond b (remove m h.signal) (insert m h.signal h.address))) some
    ∙ entries-insert nat_cmp_total m h.signal h.address
    ∙ ap (put nat_cmp h.signal h.address) before
    ∙ put_last h.signal h.address (map handler_entry (take i list)) (earlier_lower list i e good l)
    ∙ sym (ap (map handler_entry) (take_more list i e l) ∙ entry_more (take i list) h)

-- ---- numbers of flags and modes

one_bit : (x : ℕ) → x < 2 → bool_number (x == 1) ≡ x
one_bit zero l = refl
one_bit (suc zero) l = refl
one_bit (suc (suc x)) l = absurd (omega arith)

bit_number : (v place : ℕ) → bool_number (bit_at v place) ≡ v / 2 ^ place % 2
bit_number v place = one_bit (v / 2 ^ place % 2) (omega arith)

pub nzcv_back : (v : ℕ) (s : Scalars) → v % 2 ^ 28 ≡ 0 → v < 2 ^ 32 → s.n ≡ bit_at v 31 → s.z ≡ bit_at v 30 → s.c ≡ bit_at v 29
    → s.v ≡ bit_at v 28 → nzcv_of s ≡ v
unfolding nzcv_of
nzcv_back v s flags low n z c o =
    let n31 : bool_number s.n ≡ v / 2 ^ 31 % 2 = ap bool_number n ∙ bit_number v 31 in
    let z30 : bool_number s.z ≡ v / 2 ^ 30 % 2 = ap bool_number z ∙ bit_number v 30 in
    let c29 : bool_number s.c ≡ v / 2 ^ 29 % 2 = ap bool_number c ∙ bit_number v 29 in
    let v28 : bool_number s.v ≡ v / 2 ^ 28 % 2 = ap bool_number o ∙ bit_number v 28 in
    omega (arith, n31, z30, c29, v28, flags, low)

pub svcr_back : (v : ℕ) → v < 4 → bool_number (bit_at v 0) + 2 * bool_number (bit_at v 1) ≡ v
svcr_back v low =
    let sm : bool_number (bit_at v 0) ≡ v / 2 ^ 0 % 2 = bit_number v 0 in
    let za : bool_number (bit_at v 1) ≡ v / 2 ^ 1 % 2 = bit_number v 1 in
    omega (arith, sm, za, low)

-- ---- registers that were written one after the other

module _ (size : ℕ) (t : LooseState) (v0 v1 v2 v3 : SveState) (z p f : List ℕ) (long : length_of v0 ≡ size)
    (one : v1 ≡ with_vectors v0 (pieces (length_of v0) z 32)) (two : v2 ≡ with_predicates v1 (truths_in (length_of v1 / 8) p 16))
    (three : v3 ≡ with_ffr v2 (truths_of f)) where
  length_one : length_of v1 ≡ size
  length_one = ap length_of one ∙ long

  length_two : length_of v2 ≡ size
  length_two = ap length_of two ∙ length_one

  pub length_three : length_of v3 ≡ size
  length_three = ap length_of three ∙ length_two

  zs : List (List ℕ)
  zs = pieces (length_of v0) z 32

  ps : List (List Bool)
  ps = truths_in (length_of v1 / 8) p 16

  pub registers_put : flat_map predicate_bytes (truths_in (length_of v1 / 8) p 16) ≡ p → predicate_bytes (truths_of f) ≡ f
      → z ≡ t.z.items → p ≡ t.p.items → f ≡ t.ffr.items → length z ≡ 32 * length_of v0
      → AreOfLength (length_of v3) v3.registers → HasRegisters size t v3.registers
  unfolding ps zs
  registers_put told first vectors predicates ffr many lengths =
      let is : v3.registers ≡ record { vectors = zs; predicates = ps; ffr = truths_of f } =
      ap (λ (s : SveState). s.registers) three
      ∙ ap (λ (s : SveState). (with_ffr s (truths_of f)).registers) two
      ∙ ap (λ (s : SveState). (with_ffr (with_predicates s ps) (truths_of f)).registers) one in
      record {
        lengths = subst (λ (n : ℕ). AreOfLength n v3.registers) length_three lengths;
        vectors = ap (λ (r : VectorRegisters). concat r.vectors) is ∙ pieces_whole (length_of v0) 32 z many ∙ vectors;
        predicates = ap (λ (r : VectorRegisters). flat_map predicate_bytes r.predicates) is ∙ told ∙ predicates;
        first_fault = ap (λ (r : VectorRegisters). predicate_bytes r.ffr) is ∙ first ∙ ffr;
      }

-- ---- ZA

pub still_zero : (za : ArrayState) (svl : VecLen) → za ≡ zero_array svl → za ≡ zero_array za.svl
still_zero za svl h = h ∙ ap (λ (l : VecLen). zero_array l) (sym (ap (λ (a : ArrayState). a.svl) h))

-- ---- none but signals have handlers

other_key : (k s : ℕ) → is_signal s ≡ true → is_signal k ≡ false → eq_by_cmp nat_cmp k s ≡ false
other_key k s is other = elim (cases_Bool (eq_by_cmp nat_cmp k s)) [
  | inl found ↦ let same : s ≡ k = grind (arith, nat_tests) in absurd (both_ways (is_signal s) (ap is_signal same ∙ other) is)
  | inr apart ↦ apart
]

found_in : (k : ℕ) (list : List Handler) → ((i : ℕ) (d : Handler) → i < length list → is_signal (get_or list i d).signal ≡ true)
    → is_signal k ≡ false → find nat_cmp k (map handler_entry list) ≡ None
found_in k [] each other = refl
found_in k (h ∷ list) each other =
    let apart : eq_by_cmp nat_cmp k h.signal ≡ false = other_key k h.signal (each 0 h (omega arith)) other in
    rw apart (found_in k list (λ i d l. each (suc i) d (omega (arith, l))) other)

pub signals_alone : (list : List Handler) (m : FinMap nat_cmp ℕ) → AreHandlers list → entries m ≡ map handler_entry list
    → AreOfSignals m
signals_alone list m good is = λ k other.
    get-entries m k ∙ ap (λ (es : List (ℕ × ℕ)). find nat_cmp k es) is ∙ found_in k list (λ i d l. (good.each i d l).signal) other
