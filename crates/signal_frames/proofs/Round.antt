-- The frame of a state, read by its offsets.
use Rattle.std.proofs.Common.{◌≡◌, ℕ, zero, suc, ◌+◌, ◌-◌, ◌*◌, ◌/◌, ◌%◌, ◌^◌, ◌<◌, ◌≤◌, ◌==◌, Bool, true, false, List, [], ◌∷◌, ◌++◌}
use Rattle.std.proofs.Common.{length, take, drop, get_or, refl, ap, sym, ◌∙◌, arith, append_assoc, length-append, eq-eqb}
use Rattle.std.proofs.lemmas.List.{drop-drop, drop_at, take_at, append-nil, length-replicate, length-map}
use Rattle.std.proofs.lemmas.List.FromFn.{fill_by_all}
use Rattle.std.proofs.Math.Nat.{mul-le-mul_right}
use Rattle.std.proofs.lemmas.Bool.{le-leb, lt-ltb, and_from}
use Rattle.std.specs.Prelude.{if◌then◌else◌, map, replicate}
use Rattle.std.specs.List.{concat, flat_map, list_all, range_with_len}
use Rattle.bit_ops.specs.Sums.{bool_number}
use Rattle.sm_types.specs.declared.scalars.Scalars.{Scalars}
use Rattle.sve_vectors.specs.Predicates.{predicate_bytes, truths_of}
use Rattle.sve_vectors.specs.Registers.{VectorRegisters}
use Rattle.sve_vectors.proofs.Bits.{truths-predicate_bytes}
use Rattle.machine_step.specs.ProcessorState.{ProcessorState}
use Rattle.machine_step.specs.Mode.{length_at}
use Rattle.machine_step.specs.System.{nzcv_of, svcr_of, bit_at}
use Rattle.signal_frames.specs.Layout.{head_size, body_size, frame_size, frame_tag, vectors_bytes, predicates_bytes, ffr_bytes, array_bytes}
use Rattle.signal_frames.specs.Layout.{head_bytes, masking_bytes, vector_state_bytes}
use Rattle.signal_frames.specs.Frame.{size_of, frame_bytes}
use Rattle.signal_frames.specs.Saved.{number_at, saved_x, saved_nzcv, saved_svcr, saved_size, saved_signal, saved_length}
use Rattle.signal_frames.specs.Saved.{saved_array_size, saved_streaming, saved_za_on, saved_scalars, saved_vector, saved_predicate}
use Rattle.signal_frames.specs.Saved.{saved_ffr, saved_array_vector, saved_registers, saved_array, has_modes, has_sizes}
use Rattle.signal_frames.specs.Saved.{saved_masking, body_of, is_nested, has_masking, is_head, is_zero_past}
use Rattle.signal_frames.specs.Law.{IsInRange, IsSaveable, MayReturnTo}
use Rattle.signal_frames.specs.declared.masking.Masking.{Masking}
use Rattle.sm_types.specs.declared.version.Version.{Version}
use Rattle.sm_types.specs.declared.version.Version.TheVariants.{One, Two}
use Rattle.signal_frames.proofs.Lengths.{length-concat, length-predicate, length-predicates, length-ffr, length-head, length-masking}
use Rattle.signal_frames.proofs.Lengths.{length-vector_state}
use Rattle.signal_frames.proofs.Parts.{Numbers, bytes_of, after_head, row_at, x_at, tag_at, size_at, signal_at, sp_at, pc_at, nzcv_at}
use Rattle.signal_frames.proofs.Parts.{svcr_at, length_at_312, array_size_at, rest_at}

-- ---- the numbers of the modes and of the flags

pub svcr_low : (a b : Bool) → bool_number a + 2 * bool_number b < 4
svcr_low true true = omega arith
svcr_low true false = omega arith
svcr_low false true = omega arith
svcr_low false false = omega arith

pub svcr_sm : (a b : Bool) → bit_at (bool_number a + 2 * bool_number b) 0 ≡ a
svcr_sm true true = refl
svcr_sm true false = refl
svcr_sm false true = refl
svcr_sm false false = refl

pub svcr_za : (a b : Bool) → bit_at (bool_number a + 2 * bool_number b) 1 ≡ b
svcr_za true true = refl
svcr_za true false = refl
svcr_za false true = refl
svcr_za false false = refl

pub record Flags (value : ℕ) (n z c v : Bool) : Type 0 where
  pub negative : bit_at value 31 ≡ n
  pub zeroed : bit_at value 30 ≡ z
  pub carry : bit_at value 29 ≡ c
  pub overflow : bit_at value 28 ≡ v
  pub low : value < 2 ^ 32
  pub others : value % 2 ^ 28 ≡ 0

flags : (n z c v : Bool) → Flags (bool_number n * 2 ^ 31 + bool_number z * 2 ^ 30 + bool_number c * 2 ^ 29 + bool_number v * 2 ^ 28) n z c v
flags true true true true = record { negative = refl; zeroed = refl; carry = refl; overflow = refl; low = omega arith; others = refl }
flags true true true false = record { negative = refl; zeroed = refl; carry = refl; overflow = refl; low = omega arith; others = refl }
flags true true false true = record { negative = refl; zeroed = refl; carry = refl; overflow = refl; low = omega arith; others = refl }
flags true true false false = record { negative = refl; zeroed = refl; carry = refl; overflow = refl; low = omega arith; others = refl }
flags true false true true = record { negative = refl; zeroed = refl; carry = refl; overflow = refl; low = omega arith; others = refl }
flags true false true false = record { negative = refl; zeroed = refl; carry = refl; overflow = refl; low = omega arith; others = refl }
flags true false false true = record { negative = refl; zeroed = refl; carry = refl; overflow = refl; low = omega arith; others = refl }
flags true false false false = record { negative = refl; zeroed = refl; carry = refl; overflow = refl; low = omega arith; others = refl }
flags false true true true = record { negative = refl; zeroed = refl; carry = refl; overflow = refl; low = omega arith; others = refl }
flags false true true false = record { negative = refl; zeroed = refl; carry = refl; overflow = refl; low = omega arith; others = refl }
flags false true false true = record { negative = refl; zeroed = refl; carry = refl; overflow = refl; low = omega arith; others = refl }
flags false true false false = record { negative = refl; zeroed = refl; carry = refl; overflow = refl; low = omega arith; others = refl }
flags false false true true = record { negative = refl; zeroed = refl; carry = refl; overflow = refl; low = omega arith; others = refl }
flags false false true false = record { negative = refl; zeroed = refl; carry = refl; overflow = refl; low = omega arith; others = refl }
flags false false false true = record { negative = refl; zeroed = refl; carry = refl; overflow = refl; low = omega arith; others = refl }
flags false false false false = record { negative = refl; zeroed = refl; carry = refl; overflow = refl; low = omega arith; others = refl }

pub flags_of : (s : Scalars) → Flags (nzcv_of s) s.n s.z s.c s.v
unfolding nzcv_of
flags_of s = flags s.n s.z s.c s.v

-- ---- the numbers of the frame of a state

-- what follows its head
abbrev pub rest_of : ℕ → ProcessorState → List ℕ
rest_of vl s = vector_state_bytes (length_at vl s) s.za_on s.bank.registers s.bank.za

abbrev pub numbers_of : Version → Masking → ℕ → ℕ → ProcessorState → Numbers
numbers_of version masking vl signal s = record {
  version = version;
  size = size_of version vl s;
  signal = signal;
  x = s.scalars.x;
  sp = s.scalars.sp;
  pc = s.scalars.pc;
  nzcv = nzcv_of s.scalars;
  svcr = svcr_of s;
  tpidr2 = s.tpidr2;
  tpidr = s.tpidr;
  l = length_at vl s;
  s = length s.bank.za;
  rest = masking_bytes version masking ++ rest_of vl s;
}

pub frame_numbers : (version : Version) (masking : Masking) (vl signal : ℕ) (s : ProcessorState)
    → frame_bytes version masking vl signal s ≡ bytes_of (numbers_of version masking vl signal s)
unfolding frame_bytes
frame_numbers version masking vl signal s = refl

pub body_back : (version : Version) (masking : Masking) (vl signal : ℕ) (s : ProcessorState) → IsInRange vl s
    → body_of version (bytes_of (numbers_of version masking vl signal s)) ≡ rest_of vl s
body_back One masking vl signal s h = after_head (numbers_of One masking vl signal s) 0 h.count
body_back Two masking vl signal s h = after_head (numbers_of Two masking vl signal s) 16 h.count

most_head : (version : Version) → head_size version ≤ 336
most_head One = omega arith
most_head Two = omega arith

body_low : (l n : ℕ) (za_on : Bool) → l ≤ 256 → n ≤ 256 → body_size l n za_on < 2 ^ 31
body_low l n true h k =
    let one : n * n ≤ 256 * n = mul-le-mul_right n k in
    omega arith
body_low l n false h k = omega arith

pub size_low : (version : Version) (l n : ℕ) (za_on : Bool) → l ≤ 256 → n ≤ 256 → frame_size version l n za_on < 2 ^ 32
size_low version l n za_on h k =
    let head : head_size version ≤ 336 = most_head version in
    let body : body_size l n za_on < 2 ^ 31 = body_low l n za_on h k in
    omega arith

scalars_are : (s : Scalars) (x : List ℕ) (sp pc : ℕ) (n z c v : Bool) → x ≡ s.x → sp ≡ s.sp → pc ≡ s.pc → n ≡ s.n → z ≡ s.z
    → c ≡ s.c → v ≡ s.v
    → (let made : Scalars = record { x = x; sp = sp; pc = pc; n = n; z = z; c = c; v = v } in made) ≡ s
scalars_are s x sp pc n z c v e1 e2 e3 e4 e5 e6 e7 = rw (e1, e2, e3, e4, e5, e6, e7) refl

pub scalars_back : (version : Version) (masking : Masking) (vl signal : ℕ) (s : ProcessorState) → IsInRange vl s
    → saved_scalars (bytes_of (numbers_of version masking vl signal s)) ≡ s.scalars
unfolding saved_scalars
scalars_back version masking vl signal s h =
    let q : Numbers = numbers_of version masking vl signal s in
    let f : List ℕ = bytes_of q in
    let flags : Flags (nzcv_of s.scalars) s.scalars.n s.scalars.z s.scalars.c s.scalars.v = flags_of s.scalars in
    let nzcv : saved_nzcv f ≡ nzcv_of s.scalars = nzcv_at q h.count (omega (arith, flags.low)) in
    scalars_are s.scalars (map (saved_x f) (range_with_len 0 31)) (number_at f 264 8) (number_at f 272 8)
    (bit_at (saved_nzcv f) 31) (bit_at (saved_nzcv f) 30) (bit_at (saved_nzcv f) 29) (bit_at (saved_nzcv f) 28)
    (sym (fill_by_all (saved_x f) s.scalars.x 31 0 h.count (λ k l. sym (x_at q k (omega (arith, h.count)) (h.x k)))))
    (sp_at q h.count h.sp) (pc_at q h.count h.pc)
    (ap (λ k. bit_at k 31) nzcv ∙ flags.negative) (ap (λ k. bit_at k 30) nzcv ∙ flags.zeroed)
    (ap (λ k. bit_at k 29) nzcv ∙ flags.carry) (ap (λ k. bit_at k 28) nzcv ∙ flags.overflow)

masking_is : (masking : Masking) (mask depth : ℕ) → mask ≡ masking.mask → depth ≡ masking.depth
    → (let made : Masking = record { mask = mask; depth = depth } in made) ≡ masking
masking_is masking mask depth e1 e2 = rw (e1, e2) refl

-- ---- the checks

-- the fields of lengths and modes
pub record Fields (version : Version) (vl : ℕ) (s : ProcessorState) (frame : List ℕ) : Type 0 where
  pub svcr : saved_svcr frame ≡ svcr_of s
  pub streaming : saved_streaming frame ≡ s.streaming
  pub za_on : saved_za_on frame ≡ s.za_on
  pub current : saved_length frame ≡ length_at vl s
  pub array : saved_array_size frame ≡ length s.bank.za
  pub size : saved_size frame ≡ size_of version vl s

pub fields_back : (version : Version) (masking : Masking) (vl signal : ℕ) (s : ProcessorState) → IsInRange vl s
    → Fields version vl s (bytes_of (numbers_of version masking vl signal s))
fields_back version masking vl signal s h =
    let q : Numbers = numbers_of version masking vl signal s in
    let svcr : saved_svcr (bytes_of q) ≡ svcr_of s = svcr_at q h.count (omega (arith, svcr_low s.streaming s.za_on)) in
    record {
      svcr = svcr;
      streaming = ap (λ k. bit_at k 0) svcr ∙ svcr_sm s.streaming s.za_on;
      za_on = ap (λ k. bit_at k 1) svcr ∙ svcr_za s.streaming s.za_on;
      current = length_at_312 q h.count (omega (arith, h.small));
      array = array_size_at q h.count (omega (arith, h.narrow));
      size = size_at q (size_low version (length_at vl s) (length s.bank.za) s.za_on h.small h.narrow);
    }

pub saved_back : (version : Version) (masking : Masking) (vl signal : ℕ) (s : ProcessorState) → IsInRange vl s
    → IsSaveable version masking → saved_masking version (bytes_of (numbers_of version masking vl signal s)) ≡ masking
saved_back One masking vl signal s h ranges = masking_is masking 0 0 (sym ranges.0) (sym ranges.1)
saved_back Two masking vl signal s h ranges =
    let q : Numbers = numbers_of Two masking vl signal s in
    masking_is masking (number_at (bytes_of q) 320 8) (number_at (bytes_of q) 328 4) (rest_at q _ 0 8 masking.mask h.count refl ranges.0)
    (rest_at q _ 8 4 masking.depth h.count refl ranges.1)

masked_back : (version : Version) (masking : Masking) (depth vl signal : ℕ) (s : ProcessorState) → IsInRange vl s
    → IsSaveable version masking → MayReturnTo version masking depth
    → has_masking version depth (bytes_of (numbers_of version masking vl signal s)) ≡ true
unfolding is_nested
masked_back One masking depth vl signal s h ranges may = refl
masked_back Two masking depth vl signal s h ranges may =
    let q : Numbers = numbers_of Two masking vl signal s in
    let f : List ℕ = bytes_of q in
    let mask : number_at f 320 8 ≡ masking.mask = rest_at q _ 0 8 masking.mask h.count refl ranges.0 in
    let below : number_at f 328 4 ≡ masking.depth = rest_at q _ 8 4 masking.depth h.count refl ranges.1 in
    let zeros : number_at f 332 4 ≡ 0 = rest_at q _ 12 4 0 h.count refl (omega arith) in
    and_from _ _
    (and_from _ _
    (and_from _ _ (eq-eqb (number_at f 320 8 % 2) 0 (ap (λ k. k % 2) mask ∙ may.0))
    (lt-ltb (number_at f 320 8) (2 ^ 63) (omega (arith, mask, may.1))))
    (lt-ltb (number_at f 328 4) depth (omega (arith, below, may.2))))
    (eq-eqb (number_at f 332 4) 0 zeros)

pub head_back : (version : Version) (masking : Masking) (depth vl signal : ℕ) (s : ProcessorState) → IsInRange vl s
    → 1 ≤ signal → signal ≤ 62 → IsSaveable version masking → MayReturnTo version masking depth
    → is_head (record { version = version; depth = depth; vl = vl; svl = length s.bank.za })
    (bytes_of (numbers_of version masking vl signal s)) ≡ true
unfolding is_head has_modes has_sizes
head_back version masking depth vl signal s h least most ranges may =
    let q : Numbers = numbers_of version masking vl signal s in
    let f : List ℕ = bytes_of q in
    let n : ℕ = length s.bank.za in
    let flags : Flags (nzcv_of s.scalars) s.scalars.n s.scalars.z s.scalars.c s.scalars.v = flags_of s.scalars in
    let nzcv : saved_nzcv f ≡ nzcv_of s.scalars = nzcv_at q h.count (omega (arith, flags.low)) in
    let fields : Fields version vl s f = fields_back version masking vl signal s h in
    let mark : saved_signal f ≡ signal = signal_at q (omega arith) in
    let expected : saved_length f ≡ (if saved_streaming f then n else vl) =
    fields.current ∙ ap (λ k. if k then n else vl) (sym fields.streaming) in
    let size : saved_size f ≡ frame_size version (saved_length f) n (saved_za_on f) =
    fields.size ∙ ap (λ k. frame_size version k n s.za_on) (sym fields.current)
    ∙ ap (frame_size version (saved_length f) n) (sym fields.za_on) in
    and_from _ _
    (and_from _ _
    (and_from _ _
    (and_from _ _
    (and_from _ _ (eq-eqb (number_at f 0 8) (frame_tag version) (tag_at q))
    (and_from _ _
    (and_from _ _ (lt-ltb (saved_svcr f) 4 (omega (arith, fields.svcr, svcr_low s.streaming s.za_on)))
    (eq-eqb (saved_nzcv f % 2 ^ 28) 0 (ap (λ k. k % 2 ^ 28) nzcv ∙ flags.others)))
    (lt-ltb (saved_nzcv f) (2 ^ 32) (omega (arith, nzcv, flags.low)))))
    (and_from _ _
    (and_from _ _ (eq-eqb (saved_length f) (if saved_streaming f then n else vl) expected) (eq-eqb (saved_array_size f) n fields.array))
    (eq-eqb (saved_size f) (frame_size version (saved_length f) n (saved_za_on f)) size)))
    (le-leb 1 (saved_signal f) (omega (arith, mark))))
    (le-leb (saved_signal f) 62 (omega (arith, mark))))
    (masked_back version masking depth vl signal s h ranges may)

-- ---- the vectors

-- the parts of what follows the head of a frame
pub record After (vl : ℕ) (s : ProcessorState) : Type 0 where
  pub vectors : drop (32 * length_at vl s) (rest_of vl s)
      ≡ predicates_bytes s.bank.registers ++ (ffr_bytes (length_at vl s) s.bank.registers ++ array_bytes s.za_on s.bank.za)
  pub predicates : drop (34 * length_at vl s) (rest_of vl s)
      ≡ ffr_bytes (length_at vl s) s.bank.registers ++ array_bytes s.za_on s.bank.za

pub after_back : (vl : ℕ) (s : ProcessorState) → IsInRange vl s → After vl s
after_back vl s h =
    let l : ℕ = length_at vl s in
    let r : VectorRegisters = s.bank.registers in
    let others : List ℕ = ffr_bytes l r ++ array_bytes s.za_on s.bank.za in
    let rest : List ℕ = vectors_bytes r ++ (predicates_bytes r ++ others) in
    let long : length (vectors_bytes r) ≡ 32 * l =
    length-concat l r.vectors (λ k low. h.registers.vector_length k (omega (arith, h.registers.vector_count)))
    ∙ ap (λ k. k * l) h.registers.vector_count in
    let short : length (predicates_bytes r) ≡ 16 * (l / 8) =
    length-predicates l r.predicates (λ k low. h.registers.predicate_length k (omega (arith, h.registers.predicate_count)))
    ∙ ap (λ k. k * (l / 8)) h.registers.predicate_count in
    let vectors : drop (32 * l) rest ≡ predicates_bytes r ++ others =
    drop_at (vectors_bytes r) (predicates_bytes r ++ others) (32 * l) long in
    let split : 34 * l ≡ 32 * l + 16 * (l / 8) = omega (arith, h.whole) in
    record {
      vectors = vectors;
      predicates = ap (λ k. drop k rest) split ∙ sym (drop-drop (16 * (l / 8)) (32 * l) rest) ∙ ap (drop (16 * (l / 8))) vectors
          ∙ drop_at (predicates_bytes r) others (16 * (l / 8)) short;
    }

rows_of_map : (rows : List (List Bool)) → flat_map predicate_bytes rows ≡ concat (map predicate_bytes rows)
rows_of_map [] = refl
rows_of_map (row ∷ rows) = ap (λ k. predicate_bytes row ++ k) (rows_of_map rows)

row_of_map : (rows : List (List Bool)) (n : ℕ) → n < length rows
    → get_or (map predicate_bytes rows) n [] ≡ predicate_bytes (get_or rows n [])
row_of_map [] n l = absurd (omega arith)
row_of_map (row ∷ rows) zero l = refl
row_of_map (row ∷ rows) (suc n) l = row_of_map rows n (omega arith)

long_map : (rows : List (List Bool)) → length (map predicate_bytes rows) ≡ length rows
long_map rows = length-map rows predicate_bytes

vector_back : (vl : ℕ) (s : ProcessorState) → IsInRange vl s → (n : ℕ) → n < 32
    → saved_vector (length_at vl s) (rest_of vl s) n ≡ get_or s.bank.registers.vectors n []
vector_back vl s h n low =
    let l : ℕ = length_at vl s in
    let r : VectorRegisters = s.bank.registers in
    row_at l r.vectors (predicates_bytes r ++ (ffr_bytes l r ++ array_bytes s.za_on s.bank.za)) n
    (λ k lower. h.registers.vector_length k (omega (arith, h.registers.vector_count))) (omega (arith, h.registers.vector_count))

predicate_back : (vl : ℕ) (s : ProcessorState) → IsInRange vl s → (n : ℕ) → n < 16
    → saved_predicate (length_at vl s) (rest_of vl s) n ≡ get_or s.bank.registers.predicates n []
predicate_back vl s h n low =
    let l : ℕ = length_at vl s in
    let r : VectorRegisters = s.bank.registers in
    let others : List ℕ = ffr_bytes l r ++ array_bytes s.za_on s.bank.za in
    let there : n < length r.predicates = omega (arith, h.registers.predicate_count) in
    let start : drop (32 * l + n * (l / 8)) (rest_of vl s) ≡ drop (n * (l / 8)) (concat (map predicate_bytes r.predicates) ++ others) =
    sym (drop-drop (n * (l / 8)) (32 * l) (rest_of vl s)) ∙ ap (drop (n * (l / 8))) ((after_back vl s h).vectors
    ∙ ap (λ k. k ++ others) (rows_of_map r.predicates)) in
    let row : take (l / 8) (drop (32 * l + n * (l / 8)) (rest_of vl s)) ≡ predicate_bytes (get_or r.predicates n []) =
    ap (take (l / 8)) start
    ∙ row_at (l / 8) (map predicate_bytes r.predicates) others n
    (λ k lower.
    let within : k < length r.predicates = omega (arith, long_map r.predicates) in
    ap length (row_of_map r.predicates k within) ∙ length-predicate (get_or r.predicates k [])
    ∙ ap (λ x. x / 8) (h.registers.predicate_length k (omega (arith, h.registers.predicate_count))))
    (omega (arith, long_map r.predicates))
    ∙ row_of_map r.predicates n there in
    ap truths_of row
    ∙ truths-predicate_bytes (get_or r.predicates n []) (omega (arith, h.registers.predicate_length n low, h.whole))

-- FFR's field and ZA, from FFR on
ffr_start : (vl : ℕ) (s : ProcessorState) → IsInRange vl s → (k : ℕ)
    → drop (34 * length_at vl s + k) (rest_of vl s)
    ≡ drop k (ffr_bytes (length_at vl s) s.bank.registers ++ array_bytes s.za_on s.bank.za)
ffr_start vl s h k =
    sym (drop-drop k (34 * length_at vl s) (rest_of vl s)) ∙ ap (drop k) (after_back vl s h).predicates

ffr_back : (vl : ℕ) (s : ProcessorState) → IsInRange vl s
    → saved_ffr (length_at vl s) (rest_of vl s) ≡ s.bank.registers.ffr
ffr_back vl s h =
    let l : ℕ = length_at vl s in
    let r : VectorRegisters = s.bank.registers in
    let zeros : List ℕ = replicate (32 - l / 8) 0 in
    let long : length (predicate_bytes r.ffr) ≡ l / 8 = length-predicate r.ffr ∙ ap (λ k. k / 8) h.registers.ffr_length in
    ap truths_of
    (ap (take (l / 8)) ((after_back vl s h).predicates
    ∙ append_assoc (predicate_bytes r.ffr) zeros (array_bytes s.za_on s.bank.za))
    ∙ take_at (predicate_bytes r.ffr) (zeros ++ array_bytes s.za_on s.bank.za) (l / 8) long)
    ∙ truths-predicate_bytes r.ffr (omega (arith, h.registers.ffr_length, h.whole))

zeros_pass : (n : ℕ) → list_all (λ b. b == 0) (replicate n 0) ≡ true
zeros_pass zero = refl
zeros_pass (suc n) = zeros_pass n

pub past_back : (vl : ℕ) (s : ProcessorState) → IsInRange vl s
    → is_zero_past (length_at vl s) (rest_of vl s) ≡ true
unfolding is_zero_past
past_back vl s h =
    let l : ℕ = length_at vl s in
    let r : VectorRegisters = s.bank.registers in
    let zeros : List ℕ = replicate (32 - l / 8) 0 in
    let array : List ℕ = array_bytes s.za_on s.bank.za in
    let long : length (predicate_bytes r.ffr) ≡ l / 8 = length-predicate r.ffr ∙ ap (λ k. k / 8) h.registers.ffr_length in
    let count : length zeros ≡ 32 - l / 8 = length-replicate (32 - l / 8) 0 in
    ap (list_all (λ b. b == 0))
    (ap (take (32 - l / 8)) (ffr_start vl s h (l / 8)
    ∙ ap (drop (l / 8)) (append_assoc (predicate_bytes r.ffr) zeros array)
    ∙ drop_at (predicate_bytes r.ffr) (zeros ++ array) (l / 8) long)
    ∙ take_at zeros array (32 - l / 8) count)
    ∙ zeros_pass (32 - l / 8)

array_vector_back : (vl : ℕ) (s : ProcessorState) → IsInRange vl s → s.za_on ≡ true → (n : ℕ) → n < length s.bank.za
    → saved_array_vector (length_at vl s) (length s.bank.za) (rest_of vl s) n ≡ get_or s.bank.za n []
array_vector_back vl s h on n low =
    let l : ℕ = length_at vl s in
    let m : ℕ = length s.bank.za in
    let r : VectorRegisters = s.bank.registers in
    let array : List ℕ = array_bytes s.za_on s.bank.za in
    let place : 34 * l + 32 + n * m ≡ 34 * l + (32 + n * m) = omega arith in
    let whole : array ≡ concat s.bank.za ++ [] = ap (λ k. array_bytes k s.bank.za) on ∙ sym (append-nil (concat s.bank.za)) in
    ap (take m) (ap (λ k. drop k (rest_of vl s)) place ∙ ffr_start vl s h (32 + n * m)
    ∙ sym (drop-drop (n * m) 32 (ffr_bytes l r ++ array))
    ∙ ap (drop (n * m)) (drop_at (ffr_bytes l r) array 32 (length-ffr l r h.registers.ffr_length h.small) ∙ whole))
    ∙ row_at m s.bank.za [] n (λ k lower. h.square.long k lower) low

pub registers_back : (vl : ℕ) (s : ProcessorState) → IsInRange vl s
    → saved_registers (length_at vl s) (rest_of vl s) ≡ s.bank.registers
unfolding saved_registers
registers_back vl s h =
    let l : ℕ = length_at vl s in
    let f : List ℕ = rest_of vl s in
    let r : VectorRegisters = s.bank.registers in
    let z : map (saved_vector l f) (range_with_len 0 32) ≡ r.vectors =
    sym (fill_by_all (saved_vector l f) r.vectors 32 [] h.registers.vector_count (λ k low. sym (vector_back vl s h k low))) in
    let p : map (saved_predicate l f) (range_with_len 0 16) ≡ r.predicates =
    sym (fill_by_all (saved_predicate l f) r.predicates 16 [] h.registers.predicate_count
    (λ k low. sym (predicate_back vl s h k low))) in
    rw (z, p, ffr_back vl s h) refl

pub array_back : (vl : ℕ) (s : ProcessorState) (on : Bool) → IsInRange vl s → s.za_on ≡ on
    → saved_array (length_at vl s) (length s.bank.za) on (rest_of vl s) ≡ s.bank.za
unfolding saved_array
array_back vl s true h e =
    let f : List ℕ = rest_of vl s in
    sym (fill_by_all (saved_array_vector (length_at vl s) (length s.bank.za) f) s.bank.za (length s.bank.za) [] refl
    (λ k low. sym (array_vector_back vl s h e k low)))
array_back vl s false h e = sym (h.off e)

-- ---- how long it is

pub long_frame : (version : Version) (masking : Masking) (vl signal : ℕ) (s : ProcessorState) → IsInRange vl s
    → length (bytes_of (numbers_of version masking vl signal s)) ≡ size_of version vl s
long_frame version masking vl signal s h =
    let l : ℕ = length_at vl s in
    let r : VectorRegisters = s.bank.registers in
    let system : List ℕ = s.scalars.sp ∷ s.scalars.pc ∷ nzcv_of s.scalars ∷ svcr_of s ∷ s.tpidr2 ∷ s.tpidr ∷ [] in
    let head : List ℕ = head_bytes version (size_of version vl s ∷ signal ∷ []) s.scalars.x system (l ∷ length s.bank.za ∷ []) in
    let mask : List ℕ = masking_bytes version masking in
    let first : length head ≡ 320 =
    length-head version (size_of version vl s ∷ signal ∷ []) s.scalars.x system (l ∷ length s.bank.za ∷ []) refl h.count refl refl in
    let body : length (rest_of vl s) ≡ body_size l (length s.bank.za) s.za_on =
    length-vector_state l (length s.bank.za) s.za_on r s.bank.za h.registers h.square h.small h.whole in
    omega (
      arith,
      length-append head (mask ++ rest_of vl s),
      length-append mask (rest_of vl s),
      length-masking version masking,
    )
