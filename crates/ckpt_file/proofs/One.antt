-- One state is that of a file.
use Rattle.std.proofs.Common.{◌≡◌, ℕ, zero, suc, ◌+◌, ◌*◌, ◌/◌, ◌%◌, ◌<◌, ◌≤◌, ◌^◌, ◌++◌, Bool, true, false, List, [], ◌∷◌, length, map}
use Rattle.std.proofs.Common.{drop, get_or, cond, inl, inr, Option, Some, None, refl, ap, sym, ◌∙◌, arith}
use Rattle.std.specs.Prelude.{slice_index, slice_index_or, is_some, unwrap_or}
use Rattle.std.specs.List.{flat_map}
use Rattle.std.specs.FinMap.{FinMap, entries, get, get-entries, find, same_entries_map, same_map, nat_cmp-IsAntisymmetric}
use Rattle.std.specs.Cmp.{nat_cmp_total}
use Rattle.std.specs.Ordering.{nat_cmp, eq_by_cmp}
use Rattle.std.proofs.lemmas.Bool.{cases_Bool}
use Rattle.std.proofs.lemmas.List.{length-map, length-append}
use Rattle.plain_lemmas.proofs.Lists.{append_inj}
use Rattle.plain_lemmas.proofs.Tests.{eq_by_cmp-true}
use Rattle.bit_ops.specs.Sums.{bool_number}
use Rattle.byteorder.specs.Endian.{little_number, little_bytes}
use Rattle.sm_types.specs.declared.numbers.Numbers.{Numbers}
use Rattle.sm_types.specs.declared.scalars.Scalars.{Scalars}
use Rattle.sve_vectors.specs.Predicates.{predicate_bytes, truths_of}
use Rattle.sve_vectors.specs.Registers.{VectorRegisters, AreOfLength}
use Rattle.sve_vectors.proofs.Bits.{truths-predicate_bytes}
use Rattle.za_array.specs.Array.{zero_vectors}
use Rattle.paged_memory.specs.Memory.{AddressSpace, IsWhole, bytes_from}
use Rattle.machine_step.specs.System.{nzcv_of, svcr_of}
use Rattle.machine_step.specs.Mode.{length_at}
use Rattle.kernel_contexts.specs.State.{State}
use Rattle.ckpt_fields.specs.Values.{first_values, option_values, thread_values, system_values, handler_value, handler_values}
use Rattle.ckpt_fields.specs.Values.{output_values, page_value, page_values}
use Rattle.ckpt_file.specs.Checkpoint.{register_values, vector_values, array_values, pages_in, state_values, checkpoint_values, HasWidths}
use Rattle.ckpt_file.proofs.Filling.{Each, each_of_all, back}

-- ---- numbers

number_same : (n a b : ℕ) → a < 256 ^ n → b < 256 ^ n → little_bytes n a ≡ little_bytes n b → a ≡ b
number_same n a b l m e = sym (back n a l) ∙ ap (little_number n) e ∙ back n b m

numbers_same : (xs ys : List ℕ) → ((k : ℕ) → slice_index xs k < 2 ^ 64) → ((k : ℕ) → slice_index ys k < 2 ^ 64)
    → map (little_bytes 8) xs ≡ map (little_bytes 8) ys → xs ≡ ys
numbers_same [] [] h k e = refl
numbers_same [] (y ∷ ys) h k e = cc
numbers_same (x ∷ xs) [] h k e = cc
numbers_same (x ∷ xs) (y ∷ ys) h k e =
    let first : x ≡ y = number_same 8 x y (h 0) (k 0) (ap (λ l. slice_index_or l 0 []) e) in
    let rest : xs ≡ ys = numbers_same xs ys (λ i. h (suc i)) (λ i. k (suc i)) (ap (drop 1) e) in
    λ i. first i ∷ rest i

-- ---- flags and modes

flag_same : (a b : Bool) → bool_number a ≡ bool_number b → a ≡ b
flag_same true true e = refl
flag_same true false e = absurd (omega (arith, e))
flag_same false true e = absurd (omega (arith, e))
flag_same false false e = refl

small_flag : (b : Bool) → bool_number b ≤ 1
small_flag true = omega arith
small_flag false = omega arith

low_flags : (s : Scalars) → nzcv_of s < 256 ^ 8
unfolding nzcv_of
low_flags s =
    let n = small_flag s.n in
    let z = small_flag s.z in
    let c = small_flag s.c in
    let v = small_flag s.v in omega (arith, n, z, c, v)

flags_same : (s t : Scalars) → nzcv_of s ≡ nzcv_of t → (s.n ≡ t.n) × (s.z ≡ t.z) × (s.c ≡ t.c) × (s.v ≡ t.v)
unfolding nzcv_of
flags_same s t e =
    let sn = small_flag s.n in
    let sz = small_flag s.z in
    let sc = small_flag s.c in
    let sv = small_flag s.v in
    let tn = small_flag t.n in
    let tz = small_flag t.z in
    let tc = small_flag t.c in
    let tv = small_flag t.v in
    let n : bool_number s.n ≡ bool_number t.n = omega (arith, e, sn, sz, sc, sv, tn, tz, tc, tv) in
    let z : bool_number s.z ≡ bool_number t.z = omega (arith, e, n, sz, sc, sv, tz, tc, tv) in
    let c : bool_number s.c ≡ bool_number t.c = omega (arith, e, n, z, sc, sv, tc, tv) in
    let v : bool_number s.v ≡ bool_number t.v = omega (arith, e, n, z, c) in
    (flag_same s.n t.n n, flag_same s.z t.z z, flag_same s.c t.c c, flag_same s.v t.v v)

low_modes : (a b : Bool) → bool_number a + 2 * bool_number b < 256 ^ 8
low_modes a b =
    let first = small_flag a in
    let second = small_flag b in omega (arith, first, second)

modes_same : (a b c d : Bool) → bool_number a + 2 * bool_number b ≡ bool_number c + 2 * bool_number d → (a ≡ c) × (b ≡ d)
modes_same a b c d e =
    let sa = small_flag a in
    let sb = small_flag b in
    let sc = small_flag c in
    let sd = small_flag d in
    let first : bool_number a ≡ bool_number c = omega (arith, e, sa, sb, sc, sd) in
    let second : bool_number b ≡ bool_number d = omega (arith, e, first) in
    (flag_same a c first, flag_same b d second)

low_flag : (b : Bool) → bool_number b < 256 ^ 8
low_flag b = let small = small_flag b in omega (arith, small)

-- ---- vectors, predicates and FFR

truths_same : (a b : List Bool) → length a % 8 ≡ 0 → length b % 8 ≡ 0 → predicate_bytes a ≡ predicate_bytes b → a ≡ b
truths_same a b l m e = sym (truths-predicate_bytes a l) ∙ ap truths_of e ∙ truths-predicate_bytes b m

predicates_same : (n : ℕ) (ps qs : List (List Bool)) → length ps ≡ n → length qs ≡ n
    → ((k : ℕ) → k < n → length (slice_index_or ps k []) % 8 ≡ 0) → ((k : ℕ) → k < n → length (slice_index_or qs k []) % 8 ≡ 0)
    → map predicate_bytes ps ≡ map predicate_bytes qs → ps ≡ qs
predicates_same n [] [] l m h k e = refl
predicates_same n [] (q ∷ qs) l m h k e = absurd (omega (arith, l, m))
predicates_same n (p ∷ ps) [] l m h k e = absurd (omega (arith, l, m))
predicates_same n (p ∷ ps) (q ∷ qs) l m h k e =
    let long : length qs ≡ length ps = omega (arith, l, m) in
    let first : p ≡ q =
    truths_same p q (h 0 (omega (arith, l))) (k 0 (omega (arith, l))) (ap (λ x. slice_index_or x 0 []) e) in
    let rest : ps ≡ qs =
    predicates_same (length ps) ps qs refl long (λ i d. h (suc i) (omega (arith, l, d))) (λ i d. k (suc i) (omega (arith, l, d)))
    (ap (drop 1) e) in
    λ i. first i ∷ rest i

whole_bytes : (size n : ℕ) → size % 16 ≡ 0 → n ≡ size → n % 8 ≡ 0
whole_bytes size n h e = omega (arith, h, e)

length-vectors : (size : ℕ) (r : VectorRegisters) → AreOfLength size r → length (vector_values r) ≡ 49
unfolding vector_values
length-vectors size r h =
    let ps : length (map predicate_bytes r.predicates) ≡ 16 = length-map r.predicates predicate_bytes ∙ h.predicate_count in
    let last : length (map predicate_bytes r.predicates ++ predicate_bytes r.ffr ∷ []) ≡ 17 =
    omega (arith, length-append (map predicate_bytes r.predicates) (predicate_bytes r.ffr ∷ []), ps) in
    omega (arith, length-append r.vectors (map predicate_bytes r.predicates ++ predicate_bytes r.ffr ∷ []), last, h.vector_count)

registers_same : (a b : ℕ) (r q : VectorRegisters) → a % 16 ≡ 0 → b % 16 ≡ 0 → AreOfLength a r → AreOfLength b q
    → vector_values r ≡ vector_values q → r ≡ q
unfolding vector_values
registers_same a b r q wa wb h k e =
    let vectors =
    append_inj r.vectors q.vectors (map predicate_bytes r.predicates ++ predicate_bytes r.ffr ∷ [])
    (map predicate_bytes q.predicates ++ predicate_bytes q.ffr ∷ []) (h.vector_count ∙ sym k.vector_count) e in
    let many : length (map predicate_bytes r.predicates) ≡ length (map predicate_bytes q.predicates) =
    length-map r.predicates predicate_bytes ∙ h.predicate_count ∙ sym (length-map q.predicates predicate_bytes ∙ k.predicate_count) in
    let both =
    append_inj (map predicate_bytes r.predicates) (map predicate_bytes q.predicates) (predicate_bytes r.ffr ∷ [])
    (predicate_bytes q.ffr ∷ [])
    many vectors.1 in
    let predicates : r.predicates ≡ q.predicates =
    predicates_same 16 r.predicates q.predicates h.predicate_count k.predicate_count
    (λ n l. whole_bytes a (length (slice_index_or r.predicates n [])) wa (h.predicate_length n l))
    (λ n l. whole_bytes b (length (slice_index_or q.predicates n [])) wb (k.predicate_length n l)) both.0 in
    let ffr : r.ffr ≡ q.ffr =
    truths_same r.ffr q.ffr (whole_bytes a (length r.ffr) wa h.ffr_length) (whole_bytes b (length q.ffr) wb k.ffr_length)
    (ap (λ x. slice_index_or x 0 []) both.1) in
    λ i. record { vectors = vectors.0 i; predicates = predicates i; ffr = ffr i }

-- ---- ZA

array_same : (on other : Bool) (za az : List (List ℕ)) → on ≡ other → length za ≡ length az
    → (on ≡ false → za ≡ zero_vectors (length za)) → (other ≡ false → az ≡ zero_vectors (length az))
    → array_values on za ≡ array_values other az → za ≡ az
array_same true true za az same l h k e = e
array_same true false za az same l h k e = cc
array_same false true za az same l h k e = cc
array_same false false za az same l h k e = h refl ∙ ap zero_vectors l ∙ sym (k refl)

length-array : (on : Bool) (za az : List (List ℕ)) (other : Bool) → on ≡ other → length za ≡ length az
    → length (array_values on za) ≡ length (array_values other az)
length-array true za az true same l = l
length-array true za az false same l = cc
length-array false za az true same l = cc
length-array false za az false same l = refl

-- ---- handlers

abbrev IsNarrow : ℕ × ℕ → Type 0
IsNarrow e = (e.0 < 2 ^ 32) × (e.1 < 2 ^ 64)

entries_same : (es fs : List (ℕ × ℕ)) → Each IsNarrow es → Each IsNarrow fs → flat_map handler_value es ≡ flat_map handler_value fs
    → es ≡ fs
entries_same [] [] h k e = refl
entries_same [] (f ∷ fs) h k e = cc
entries_same (g ∷ es) [] h k e = cc
entries_same (g ∷ es) (f ∷ fs) h k e =
    let signal : g.0 ≡ f.0 = number_same 4 g.0 f.0 h.0.0 k.0.0 (ap (λ x. slice_index_or x 0 []) e) in
    let address : g.1 ≡ f.1 = number_same 8 g.1 f.1 h.0.1 k.0.1 (ap (λ x. slice_index_or x 1 []) e) in
    let rest : es ≡ fs = entries_same es fs h.1 k.1 (ap (drop 2) e) in
    λ i. (signal i, address i) ∷ rest i

length-handlers : (es : List (ℕ × ℕ)) → length (flat_map handler_value es) ≡ 2 * length es
length-handlers [] = refl
length-handlers (e ∷ es) = let more = length-handlers es in omega (arith, more)

-- ---- pages

abbrev IsNarrowPage : ℕ × ℕ → Type 0
IsNarrowPage e = (e.0 < 2 ^ 52) × (e.1 < 256)

-- the page of an entry
abbrev shown : FinMap nat_cmp ℕ → ℕ × ℕ → ℕ × ℕ × List ℕ
shown mem e = (4096 * e.0, e.1, bytes_from mem (4096 * e.0) 4096)

pages_same : (ps qs : List (ℕ × ℕ × List ℕ)) → Each (λ (p : ℕ × ℕ × List ℕ). (p.0 < 2 ^ 64) × (p.1 < 256)) ps
    → Each (λ (p : ℕ × ℕ × List ℕ). (p.0 < 2 ^ 64) × (p.1 < 256)) qs → flat_map page_value ps ≡ flat_map page_value qs → ps ≡ qs
pages_same [] [] h k e = refl
pages_same [] (q ∷ qs) h k e = cc
pages_same (p ∷ ps) [] h k e = cc
pages_same (p ∷ ps) (q ∷ qs) h k e =
    let address : p.0 ≡ q.0 = number_same 8 p.0 q.0 h.0.0 k.0.0 (ap (λ x. slice_index_or x 0 []) e) in
    let flags : p.1 ≡ q.1 = number_same 1 p.1 q.1 h.0.1 k.0.1 (ap (λ x. slice_index_or x 1 []) e) in
    let bytes : p.2 ≡ q.2 = ap (λ x. slice_index_or x 2 []) e in
    let rest : ps ≡ qs = pages_same ps qs h.1 k.1 (ap (drop 3) e) in
    λ i. (address i, flags i, bytes i) ∷ rest i

narrow_shown : (mem : FinMap nat_cmp ℕ) (es : List (ℕ × ℕ)) → Each IsNarrowPage es
    → Each (λ (p : ℕ × ℕ × List ℕ). (p.0 < 2 ^ 64) × (p.1 < 256)) (map (shown mem) es)
narrow_shown mem [] h = tt
narrow_shown mem (e ∷ es) h = let low = h.0.0 in ((omega (arith, low), h.0.1), narrow_shown mem es h.1)

numbers_of_pages : (mem other : FinMap nat_cmp ℕ) (es fs : List (ℕ × ℕ)) → map (shown mem) es ≡ map (shown other) fs → es ≡ fs
numbers_of_pages mem other [] [] e = refl
numbers_of_pages mem other [] (f ∷ fs) e = cc
numbers_of_pages mem other (g ∷ es) [] e = cc
numbers_of_pages mem other (g ∷ es) (f ∷ fs) e =
    let first : shown mem g ≡ shown other f = ap (λ l. slice_index_or l 0 (shown mem g)) e in
    let times : 4096 * g.0 ≡ 4096 * f.0 = ap (λ (p : ℕ × ℕ × List ℕ). p.0) first in
    let number : g.0 ≡ f.0 = omega (arith, times) in
    let flags : g.1 ≡ f.1 = ap (λ (p : ℕ × ℕ × List ℕ). p.1) first in
    let rest : es ≡ fs = numbers_of_pages mem other es fs (ap (drop 1) e) in
    λ i. (number i, flags i) ∷ rest i

-- the bytes of a page that is there are the same
bytes_of_page : (mem other : FinMap nat_cmp ℕ) (n flags : ℕ) (es : List (ℕ × ℕ)) → map (shown mem) es ≡ map (shown other) es
    → find nat_cmp n es ≡ Some flags → bytes_from mem (4096 * n) 4096 ≡ bytes_from other (4096 * n) 4096
bytes_of_page mem other n flags [] e found = cc
bytes_of_page mem other n flags (g ∷ es) e found = elim (cases_Bool (eq_by_cmp nat_cmp n g.0)) [
  | inl here ↦
      let first : shown mem g ≡ shown other g = ap (λ l. slice_index_or l 0 (shown mem g)) e in
      let same : n ≡ g.0 = eq_by_cmp-true n g.0 here in
      ap (λ k. bytes_from mem (4096 * k) 4096) same ∙ ap (λ (p : ℕ × ℕ × List ℕ). p.2) first
      ∙ ap (λ k. bytes_from other (4096 * k) 4096) (sym same)
  | inr past ↦
      bytes_of_page mem other n flags es (ap (drop 1) e) (sym (ap (λ b. cond b (Some g.1) (find nat_cmp n es)) past) ∙ found)
]

byte_at : (mem : FinMap nat_cmp ℕ) (a n i : ℕ) → i < n → get_or (bytes_from mem a n) i 0 ≡ unwrap_or (get mem (a + i)) 0
unfolding bytes_from
byte_at mem a zero i l = absurd (omega (arith, l))
byte_at mem a (suc n) zero l = let here : a ≡ a + 0 = omega arith in ap (λ b. unwrap_or (get mem b) 0) here
byte_at mem a (suc n) (suc i) l =
    let there : a + 1 + i ≡ a + suc i = omega arith in
    byte_at mem (a + 1) n i (omega (arith, l)) ∙ ap (λ b. unwrap_or (get mem b) 0) there

both_there : (o p : Option ℕ) (b : Bool) → is_some o ≡ b → is_some p ≡ b → (b ≡ true → unwrap_or o 0 ≡ unwrap_or p 0) → o ≡ p
both_there None None b h k e = refl
both_there None (Some y) b h k e = cc
both_there (Some x) None b h k e = cc
both_there (Some x) (Some y) b h k e = let same : x ≡ y = e (sym h) in ap Some same

some_of : (o : Option ℕ) → is_some o ≡ true → (v : ℕ) × (o ≡ Some v)
some_of None h = cc
some_of (Some v) h = (v, refl)

memory_same : (m n : AddressSpace) → IsWhole m → IsWhole n → Each IsNarrowPage (entries m.perm) → Each IsNarrowPage (entries n.perm)
    → flat_map page_value (pages_in m) ≡ flat_map page_value (pages_in n) → m ≡ n
unfolding pages_in
memory_same m n wm wn hm hn e =
    let pages : map (shown m.mem) (entries m.perm) ≡ map (shown n.mem) (entries n.perm) =
    pages_same (map (shown m.mem) (entries m.perm)) (map (shown n.mem) (entries n.perm)) (narrow_shown m.mem (entries m.perm) hm)
    (narrow_shown n.mem (entries n.perm) hn) e in
    let numbers : entries m.perm ≡ entries n.perm = numbers_of_pages m.mem n.mem (entries m.perm) (entries n.perm) pages in
    let perm : m.perm ≡ n.perm = same_entries_map m.perm n.perm numbers in
    let there : map (shown m.mem) (entries m.perm) ≡ map (shown n.mem) (entries m.perm) =
    pages ∙ ap (map (shown n.mem)) (sym numbers) in
    let mem : m.mem ≡ n.mem =
    same_map nat_cmp_total nat_cmp-IsAntisymmetric m.mem n.mem
    (λ a. both_there (get m.mem a) (get n.mem a) (is_some (get m.perm (a / 4096))) (wm.bytes a)
    (wn.bytes a ∙ ap (λ (p : FinMap nat_cmp ℕ). is_some (get p (a / 4096))) (sym perm))
    (λ h.
    let some = some_of (get m.perm (a / 4096)) h in
    let bytes = bytes_of_page m.mem n.mem (a / 4096) some.0 (entries m.perm) there (sym (get-entries m.perm (a / 4096)) ∙ some.1) in
    let low : a % 4096 < 4096 = omega arith in
    let place : 4096 * (a / 4096) + a % 4096 ≡ a = omega arith in
    ap (λ b. unwrap_or (get m.mem b) 0) (sym place) ∙ sym (byte_at m.mem (4096 * (a / 4096)) 4096 (a % 4096) low)
    ∙ ap (λ l. get_or l (a % 4096) 0) bytes ∙ byte_at n.mem (4096 * (a / 4096)) 4096 (a % 4096) low
    ∙ ap (λ b. unwrap_or (get n.mem b) 0) place)) in
    λ i. record { mem = mem i; perm = perm i }

-- ---- a state

length-registers : (s : Scalars) → length s.x ≡ 31 → length (register_values s) ≡ 33
length-registers s e = omega (arith, length-map s.x (little_bytes 8), e)

at_three : (s : Scalars) → ((k : ℕ) → slice_index s.x k < 2 ^ 64) → s.pc < 2 ^ 64 → s.sp < 2 ^ 64
    → (k : ℕ) → slice_index (s.pc ∷ s.sp ∷ s.x) k < 2 ^ 64
at_three s x pc sp zero = pc
at_three s x pc sp (suc zero) = sp
at_three s x pc sp (suc (suc k)) = x k

module _ (digest : List ℕ) (options : Numbers) (s r : State) (thread number events used : ℕ)
    (h : HasWidths options s thread events) (k : HasWidths options r number used)
    (same : checkpoint_values digest options s thread events ≡ checkpoint_values digest options r number used) where
  -- from the thread on
  past_first : thread_values thread s.count events s.depth s.turns ++ state_values s
      ≡ thread_values number r.count used r.depth r.turns ++ state_values r
  unfolding checkpoint_values first_values option_values
  past_first = ap (drop 8) same

  pub same_thread : thread ≡ number
  unfolding thread_values
  same_thread = number_same 4 thread number h.thread k.thread (ap (λ l. slice_index_or l 0 []) past_first)

  same_counts : s.count ≡ r.count
  unfolding thread_values
  same_counts = number_same 4 s.count r.count h.count k.count (ap (λ l. slice_index_or l 1 []) past_first)

  pub same_events : events ≡ used
  unfolding thread_values
  same_events = number_same 4 events used h.events k.events (ap (λ l. slice_index_or l 2 []) past_first)

  same_depths : s.depth ≡ r.depth
  unfolding thread_values
  same_depths = number_same 4 s.depth r.depth h.depth k.depth (ap (λ l. slice_index_or l 3 []) past_first)

  same_turns : s.turns ≡ r.turns
  unfolding thread_values
  same_turns = number_same 8 s.turns r.turns h.turns k.turns (ap (λ l. slice_index_or l 4 []) past_first)

  past_thread : state_values s ≡ state_values r
  unfolding thread_values
  past_thread = ap (drop 5) past_first

  -- what follows the registers, the system registers, and so on
  abbrev handlers_left : State → List (List ℕ)
  handlers_left t = handler_values (entries t.handlers) ++ (output_values t.output ++ page_values (pages_in t.core.memory))

  abbrev array_left : State → List (List ℕ)
  array_left t = array_values t.core.za_on t.core.bank.za ++ handlers_left t

  abbrev vectors_left : State → List (List ℕ)
  vectors_left t = vector_values t.core.bank.registers ++ array_left t

  abbrev system_left : State → List (List ℕ)
  system_left t =
      system_values (nzcv_of t.core.scalars) (svcr_of t.core) t.core.tpidr t.core.tpidr2 t.held t.mask t.polled ++ vectors_left t

  registers : (register_values s.core.scalars ≡ register_values r.core.scalars) × (system_left s ≡ system_left r)
  unfolding state_values
  registers =
      append_inj (register_values s.core.scalars) (register_values r.core.scalars) (system_left s) (system_left r)
      (length-registers s.core.scalars h.core.count ∙ sym (length-registers r.core.scalars k.core.count)) past_thread

  same_registers : s.core.scalars.pc ∷ s.core.scalars.sp ∷ s.core.scalars.x ≡ r.core.scalars.pc ∷ r.core.scalars.sp ∷ r.core.scalars.x
  same_registers =
      numbers_same (s.core.scalars.pc ∷ s.core.scalars.sp ∷ s.core.scalars.x) (r.core.scalars.pc ∷ r.core.scalars.sp ∷ r.core.scalars.x)
      (at_three s.core.scalars h.core.x h.core.pc h.core.sp) (at_three r.core.scalars k.core.x k.core.pc k.core.sp) registers.0

  -- field n of the system registers
  system_at : (n : ℕ) → slice_index_or (system_left s) n [] ≡ slice_index_or (system_left r) n []
  system_at n = ap (λ l. slice_index_or l n []) registers.1

  same_flags : nzcv_of s.core.scalars ≡ nzcv_of r.core.scalars
  unfolding system_values
  same_flags =
      number_same 8 (nzcv_of s.core.scalars) (nzcv_of r.core.scalars) (low_flags s.core.scalars) (low_flags r.core.scalars) (system_at 0)

  same_modes : (s.core.streaming ≡ r.core.streaming) × (s.core.za_on ≡ r.core.za_on)
  unfolding system_values
  same_modes =
      modes_same s.core.streaming s.core.za_on r.core.streaming r.core.za_on
      (number_same 8 (svcr_of s.core) (svcr_of r.core) (low_modes s.core.streaming s.core.za_on) (low_modes r.core.streaming r.core.za_on)
      (system_at 1))

  same_tpidr : s.core.tpidr ≡ r.core.tpidr
  unfolding system_values
  same_tpidr = number_same 8 s.core.tpidr r.core.tpidr h.core.tpidr k.core.tpidr (system_at 2)

  same_tpidr2 : s.core.tpidr2 ≡ r.core.tpidr2
  unfolding system_values
  same_tpidr2 = number_same 8 s.core.tpidr2 r.core.tpidr2 h.core.tpidr2 k.core.tpidr2 (system_at 3)

  same_held : s.held ≡ r.held
  unfolding system_values
  same_held = number_same 8 s.held r.held h.held k.held (system_at 4)

  same_mask : s.mask ≡ r.mask
  unfolding system_values
  same_mask = number_same 8 s.mask r.mask h.mask k.mask (system_at 5)

  same_polled : s.polled ≡ r.polled
  unfolding system_values
  same_polled =
      flag_same s.polled r.polled
      (number_same 8 (bool_number s.polled) (bool_number r.polled) (low_flag s.polled) (low_flag r.polled) (system_at 6))

  past_system : vectors_left s ≡ vectors_left r
  unfolding system_values
  past_system = ap (drop 7) registers.1

  vectors : (vector_values s.core.bank.registers ≡ vector_values r.core.bank.registers) × (array_left s ≡ array_left r)
  vectors =
      append_inj (vector_values s.core.bank.registers) (vector_values r.core.bank.registers) (array_left s) (array_left r)
      (length-vectors (length_at (options.vl / 8) s.core) s.core.bank.registers h.core.registers
      ∙ sym (length-vectors (length_at (options.vl / 8) r.core) r.core.bank.registers k.core.registers)) past_system

  same_vectors : s.core.bank.registers ≡ r.core.bank.registers
  same_vectors =
      registers_same (length_at (options.vl / 8) s.core) (length_at (options.vl / 8) r.core) s.core.bank.registers r.core.bank.registers
      h.core.whole k.core.whole h.core.registers k.core.registers vectors.0

  long_arrays : length s.core.bank.za ≡ length r.core.bank.za
  long_arrays = h.array ∙ sym k.array

  array : (array_values s.core.za_on s.core.bank.za ≡ array_values r.core.za_on r.core.bank.za) × (handlers_left s ≡ handlers_left r)
  array =
      append_inj (array_values s.core.za_on s.core.bank.za) (array_values r.core.za_on r.core.bank.za) (handlers_left s) (handlers_left r)
      (length-array s.core.za_on s.core.bank.za r.core.bank.za r.core.za_on same_modes.1 long_arrays) vectors.1

  same_array : s.core.bank.za ≡ r.core.bank.za
  same_array =
      array_same s.core.za_on r.core.za_on s.core.bank.za r.core.bank.za same_modes.1 long_arrays h.core.off k.core.off array.0

  handler_count : length (entries s.handlers) ≡ length (entries r.handlers)
  unfolding handler_values
  handler_count =
      number_same 4 (length (entries s.handlers)) (length (entries r.handlers)) h.few_handlers k.few_handlers
      (ap (λ l. slice_index_or l 0 []) array.1)

  handlers : (flat_map handler_value (entries s.handlers) ≡ flat_map handler_value (entries r.handlers))
      × (output_values s.output ++ page_values (pages_in s.core.memory) ≡ output_values r.output ++ page_values (pages_in r.core.memory))
  unfolding handler_values
  handlers =
      append_inj (flat_map handler_value (entries s.handlers)) (flat_map handler_value (entries r.handlers))
      (output_values s.output ++ page_values (pages_in s.core.memory)) (output_values r.output ++ page_values (pages_in r.core.memory))
      (length-handlers (entries s.handlers) ∙ ap (λ n. 2 * n) handler_count ∙ sym (length-handlers (entries r.handlers)))
      (ap (drop 1) array.1)

  same_handlers : s.handlers ≡ r.handlers
  same_handlers =
      same_entries_map s.handlers r.handlers
      (entries_same (entries s.handlers) (entries r.handlers) (each_of_all IsNarrow (entries s.handlers) h.handlers)
      (each_of_all IsNarrow (entries r.handlers) k.handlers) handlers.0)

  same_output : s.output ≡ r.output
  unfolding output_values
  same_output = ap (λ l. slice_index_or l 1 []) handlers.1

  pages : flat_map page_value (pages_in s.core.memory) ≡ flat_map page_value (pages_in r.core.memory)
  unfolding output_values page_values
  pages = ap (drop 3) handlers.1

  same_memory : s.core.memory ≡ r.core.memory
  same_memory =
      memory_same s.core.memory r.core.memory h.memory k.memory (each_of_all IsNarrowPage (entries s.core.memory.perm) h.pages)
      (each_of_all IsNarrowPage (entries r.core.memory.perm) k.pages) pages

  pub same_state : s ≡ r
  same_state =
      let flags = flags_same s.core.scalars r.core.scalars same_flags in
      λ i. record {
        core = record {
          scalars = record {
            x = drop 2 (same_registers i);
            sp = slice_index (same_registers i) 1;
            pc = slice_index (same_registers i) 0;
            n = flags.0 i;
            z = flags.1 i;
            c = flags.2 i;
            v = flags.3 i;
          };
          tpidr = same_tpidr i;
          tpidr2 = same_tpidr2 i;
          streaming = same_modes.0 i;
          za_on = same_modes.1 i;
          memory = same_memory i;
          bank = record { registers = same_vectors i; za = same_array i };
        };
        handlers = same_handlers i;
        held = same_held i;
        mask = same_mask i;
        depth = same_depths i;
        polled = same_polled i;
        output = same_output i;
        count = same_counts i;
        turns = same_turns i;
      }
