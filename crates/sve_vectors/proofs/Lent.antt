-- What the registers are once a slice of a row was written.
use Rattle.std.proofs.Common.{◌≡◌, ℕ, ◌*◌, ◌<◌, ◌≤◌, ◌/◌, Bool, List, [], length, take, map, set, get_or, ap, ◌∙◌, sym, inl, inr, arith}
use Rattle.std.proofs.Common.{Vec, Global, length-set}
use Rattle.std.specs.Vec.{with_items_from}
use Rattle.std.proofs.lemmas.Bool.{cases_eq}
use Rattle.std.proofs.lemmas.List.{get_or-map, length-map, length-take-le, map-set, get_or-set_same, get_or-set_other}
use Rattle.sve_vectors.specs.Lengths.{current_bytes}
use Rattle.sve_vectors.specs.Predicates.{truths_of}
use Rattle.sve_vectors.specs.Registers.{VectorRegisters, AreOfLength}
use Rattle.sve_vectors.specs.State.{SveState, with_vector}
use Rattle.sve_vectors.specs.Layout.{registers_of_rows, state_of_rows, room_of, items_of, AreRows, IsLaidOut}
use Rattle.sve_vectors.specs.declared.vectors.Vectors.TheInside.{Inside}
use Rattle.sve_vectors.specs.Lending.{overwritten, with_vector_bytes, with_predicate_bytes, with_ffr_bytes}
use Rattle.sve_vectors.proofs.Held.{held, items-set, length-items, current_fits, room_at, vector_at, predicate_at, whole_current}
use Rattle.sve_vectors.proofs.Writing.{row-overwritten, take-overwritten, truths-overwritten, length-overwritten, length-truths}

-- the bytes of a row that was written from its first byte on
pub items_from : (v : Vec ℕ Global) (w : List ℕ) → (with_items_from v 0 w).items ≡ overwritten v.items w
items_from v w = row-overwritten v.items w v.len v.ok.0

-- the rows with one of them written
pub lent_rows : (rows : List (Vec ℕ Global)) (n : ℕ) (v : Vec ℕ Global) (w : List ℕ) → n < length rows → v ≡ get_or rows n v
    → items_of (set rows n (with_items_from v 0 w)) ≡ set (items_of rows) n (overwritten (get_or (items_of rows) n []) w)
lent_rows rows n v w lt is =
    items-set rows n (with_items_from v 0 w) ∙ ap (set (items_of rows) n)
    (items_from v w ∙ ap (λ t. overwritten t w) (sym (held rows n v lt is)))

pub still_rows : (rows : List (List ℕ)) (m size n : ℕ) (w : List ℕ) → n < m → AreRows m size rows
    → AreRows m size (set rows n (overwritten (get_or rows n []) w))
still_rows rows m size n w lt h = record {
  count = length-set rows n (overwritten (get_or rows n []) w) ∙ h.count;
  long = long;
}
  where
    long : (k : ℕ) → k < m → length (get_or (set rows n (overwritten (get_or rows n []) w)) k []) ≡ size
    long k l = elim (cases_eq k n) [
      | inl e ↦ rw e (ap length (get_or-set_same rows n (overwritten (get_or rows n []) w) [] (omega (arith, h.count)))
          ∙ length-overwritten (get_or rows n []) w ∙ h.long n lt)
      | inr e ↦ ap length (get_or-set_other rows n k (overwritten (get_or rows n []) w) [] e) ∙ h.long k l
    ]

vectors-set : (bytes n : ℕ) (z p : List (List ℕ)) (ffr w : List ℕ) → n < length z → bytes ≤ length (get_or z n [])
    → registers_of_rows bytes (set z n (overwritten (get_or z n []) w)) p ffr
    ≡ record (registers_of_rows bytes z p ffr) {
      vectors = set (registers_of_rows bytes z p ffr).vectors n
          (overwritten (get_or (registers_of_rows bytes z p ffr).vectors n []) w);
    }
unfolding registers_of_rows
vectors-set bytes n z p ffr w lt le =
    let e = map-set (take bytes) z n (overwritten (get_or z n []) w)
    ∙ ap (set (map (take bytes) z) n) (take-overwritten (get_or z n []) w bytes le
    ∙ ap (λ t. overwritten t w) (sym (get_or-map (take bytes) z n [] [] lt))) in
    ap (λ (t : List (List ℕ)). record (registers_of_rows bytes z p ffr) { vectors = t }) e

predicates-set : (bytes n : ℕ) (z p : List (List ℕ)) (ffr w : List ℕ) → n < length p → bytes / 8 ≤ length (get_or p n [])
    → registers_of_rows bytes z (set p n (overwritten (get_or p n []) w)) ffr
    ≡ record (registers_of_rows bytes z p ffr) {
      predicates =
          set (registers_of_rows bytes z p ffr).predicates n (overwritten (get_or (registers_of_rows bytes z p ffr).predicates n [])
          (truths_of w));
    }
unfolding registers_of_rows
predicates-set bytes n z p ffr w lt le =
    let f = λ (row : List ℕ). truths_of (take (bytes / 8) row) in
    let one : f (overwritten (get_or p n []) w) ≡ overwritten (f (get_or p n [])) (truths_of w)
    = ap truths_of (take-overwritten (get_or p n []) w (bytes / 8) le) ∙ truths-overwritten (take (bytes / 8) (get_or p n [])) w in
    let e = map-set f p n (overwritten (get_or p n []) w)
    ∙ ap (set (map f p) n) (one ∙ ap (λ t. overwritten t (truths_of w)) (sym (get_or-map f p n [] [] lt))) in
    ap (λ (t : List (List Bool)). record (registers_of_rows bytes z p ffr) { predicates = t }) e

ffr-set : (bytes : ℕ) (z p : List (List ℕ)) (ffr w : List ℕ) → bytes / 8 ≤ length ffr
    → registers_of_rows bytes z p (overwritten ffr w) ≡ record
    (registers_of_rows bytes z p ffr) { ffr = overwritten (registers_of_rows bytes z p ffr).ffr (truths_of w) }
unfolding registers_of_rows
ffr-set bytes z p ffr w le =
    ap (λ (t : List Bool). record (registers_of_rows bytes z p ffr) { ffr = t })
    (ap truths_of (take-overwritten ffr w (bytes / 8) le) ∙ truths-overwritten (take (bytes / 8) ffr) w)

-- the rows with another row in the place of one
swapped_rows : (rows : List (List ℕ)) (m size n : ℕ) (row : List ℕ) → n < m → length row ≡ size → AreRows m size rows
    → AreRows m size (set rows n row)
swapped_rows rows m size n row lt is h = record { count = length-set rows n row ∙ h.count; long = long }
  where
    long : (k : ℕ) → k < m → length (get_or (set rows n row) k []) ≡ size
    long k l = elim (cases_eq k n) [
      | inl e ↦ rw e (ap length (get_or-set_same rows n row [] (omega (arith, h.count))) ∙ is)
      | inr e ↦ ap length (get_or-set_other rows n k row [] e) ∙ h.long k l
    ]

registers-swapped : (bytes n : ℕ) (z p : List (List ℕ)) (ffr row : List ℕ) → registers_of_rows bytes (set z n row) p ffr
    ≡ record (registers_of_rows bytes z p ffr) { vectors = set (registers_of_rows bytes z p ffr).vectors n (take bytes row) }
unfolding registers_of_rows
registers-swapped bytes n z p ffr row =
    ap (λ (t : List (List ℕ)). record (registers_of_rows bytes z p ffr) { vectors = t }) (map-set (take bytes) z n row)

-- v is what a `Vectors` has
module _ (v : Inside)
    (h : IsLaidOut v.vl v.svl v.streaming v.current (items_of v.z.items) (items_of v.p.items) v.ffr.items) where
  abbrev z : List (List ℕ)
  z = items_of v.z.items

  abbrev p : List (List ℕ)
  p = items_of v.p.items

  abbrev state : List (List ℕ) → List (List ℕ) → List ℕ → SveState
  state = state_of_rows v.vl v.svl v.streaming v.current

  abbrev with_registers : VectorRegisters → SveState
  with_registers r = record { vl = v.vl; svl = v.svl; streaming = v.streaming; registers = r }

  abbrev room : ℕ
  room = room_of v.vl v.svl

  pub fits : v.current ≤ room
  fits = rw h.current (current_fits v.vl v.svl v.streaming)

  -- what the row of a register has, and its first bytes
  pub vector_room : (n : ℕ) (row : Vec ℕ Global) → n < 32 → row ≡ get_or v.z.items n row → v.current ≤ row.len
  vector_room n row lt is = omega (arith, fits, row.ok.0, room_at v.z.items 32 room n row h.vectors lt is)

  pub predicate_room : (n : ℕ) (row : Vec ℕ Global) → n < 16 → row ≡ get_or v.p.items n row → v.current / 8 ≤ row.len
  predicate_room n row lt is = omega (arith, fits, row.ok.0, room_at v.p.items 16 (room / 8) n row h.predicates lt is)

  pub ffr_room : v.current / 8 ≤ v.ffr.len
  ffr_room = omega (arith, fits, v.ffr.ok.0, h.first_fault)

  pub vector_front : (n : ℕ) (row : Vec ℕ Global) → n < 32 → row ≡ get_or v.z.items n row
      → take v.current row.items ≡ get_or (state z p v.ffr.items).registers.vectors n []
  vector_front n row lt is =
      ap (take v.current) (sym (held v.z.items n row (omega (arith, h.vectors.count, length-items v.z.items)) is))
      ∙ sym (vector_at v.current room n z p v.ffr.items h.vectors lt)

  pub predicate_front : (n : ℕ) (row : Vec ℕ Global) → n < 16 → row ≡ get_or v.p.items n row
      → truths_of (take (v.current / 8) row.items) ≡ get_or (state z p v.ffr.items).registers.predicates n []
  predicate_front n row lt is =
      ap (λ t. truths_of (take (v.current / 8) t))
      (sym (held v.p.items n row (omega (arith, h.predicates.count, length-items v.p.items)) is))
      ∙ sym (predicate_at v.current (room / 8) n z p v.ffr.items h.predicates lt)

  -- what a write to its slice makes of the state, and that the rows are kept
  pub vector_lent : (n : ℕ) (row : Vec ℕ Global) (w : List ℕ) → n < 32 → row ≡ get_or v.z.items n row
      → state (items_of (set v.z.items n (with_items_from row 0 w))) p v.ffr.items ≡ with_vector_bytes (state z p v.ffr.items) n w
  vector_lent n row w lt is =
      ap (λ t. state t p v.ffr.items) (lent_rows v.z.items n row w (omega (arith, h.vectors.count, length-items v.z.items)) is)
      ∙ ap with_registers
      (vectors-set v.current n z p v.ffr.items w (omega (arith, h.vectors.count)) (omega (arith, fits, h.vectors.long n lt)))

  pub vector_kept : (n : ℕ) (row : Vec ℕ Global) (w : List ℕ) → n < 32 → row ≡ get_or v.z.items n row
      → IsLaidOut v.vl v.svl v.streaming v.current (items_of (set v.z.items n (with_items_from row 0 w))) p v.ffr.items
  vector_kept n row w lt is = record {
    current = h.current;
    vectors = rw (lent_rows v.z.items n row w (omega (arith, h.vectors.count, length-items v.z.items)) is)
        (still_rows z 32 room n w lt h.vectors);
    predicates = h.predicates;
    first_fault = h.first_fault;
  }

  -- the same of another row in the place of one
  pub vector_swapped : (n : ℕ) (row : Vec ℕ Global)
      → state (items_of (set v.z.items n row)) p v.ffr.items ≡ with_vector (state z p v.ffr.items) n (take v.current row.items)
  vector_swapped n row =
      ap (λ t. state t p v.ffr.items) (items-set v.z.items n row)
      ∙ ap with_registers (registers-swapped v.current n z p v.ffr.items row.items)

  pub swapped_kept : (n : ℕ) (row : Vec ℕ Global) → n < 32 → length row.items ≡ room
      → IsLaidOut v.vl v.svl v.streaming v.current (items_of (set v.z.items n row)) p v.ffr.items
  swapped_kept n row lt is = record {
    current = h.current;
    vectors = rw (items-set v.z.items n row) (swapped_rows z 32 room n row.items lt is h.vectors);
    predicates = h.predicates;
    first_fault = h.first_fault;
  }

  pub predicate_lent : (n : ℕ) (row : Vec ℕ Global) (w : List ℕ) → n < 16 → row ≡ get_or v.p.items n row
      → state z (items_of (set v.p.items n (with_items_from row 0 w))) v.ffr.items ≡ with_predicate_bytes (state z p v.ffr.items) n w
  predicate_lent n row w lt is =
      ap (λ t. state z t v.ffr.items) (lent_rows v.p.items n row w (omega (arith, h.predicates.count, length-items v.p.items)) is)
      ∙ ap with_registers
      (predicates-set v.current n z p v.ffr.items w (omega (arith, h.predicates.count)) (omega (arith, fits, h.predicates.long n lt)))

  pub predicate_kept : (n : ℕ) (row : Vec ℕ Global) (w : List ℕ) → n < 16 → row ≡ get_or v.p.items n row
      → IsLaidOut v.vl v.svl v.streaming v.current z (items_of (set v.p.items n (with_items_from row 0 w))) v.ffr.items
  predicate_kept n row w lt is = record {
    current = h.current;
    vectors = h.vectors;
    predicates = rw (lent_rows v.p.items n row w (omega (arith, h.predicates.count, length-items v.p.items)) is)
        (still_rows p 16 (room / 8) n w lt h.predicates);
    first_fault = h.first_fault;
  }

  pub ffr_lent : (w : List ℕ) → state z p (with_items_from v.ffr 0 w).items ≡ with_ffr_bytes (state z p v.ffr.items) w
  ffr_lent w =
      ap (state z p) (items_from v.ffr w)
      ∙ ap with_registers (ffr-set v.current z p v.ffr.items w (omega (arith, fits, h.first_fault)))

  -- all registers have the length of the mode
  pub whole_registers : AreOfLength (current_bytes v.vl v.svl v.streaming) (registers_of_rows v.current z p v.ffr.items)
  unfolding registers_of_rows
  whole_registers =
      let eights : 8 * (v.current / 8) ≡ v.current = omega (arith, h.current, (whole_current v.vl v.svl v.streaming).0) in
      let of_bits : (row : List ℕ) → v.current / 8 ≤ length row
      → length (truths_of (take (v.current / 8) row)) ≡ current_bytes v.vl v.svl v.streaming
      = λ row le. length-truths (take (v.current / 8) row) ∙ ap (λ t. 8 * t) (length-take-le (v.current / 8) row le)
      ∙ eights ∙ h.current in
      record {
        vector_count = length-map z (take v.current) ∙ h.vectors.count;
        vector_length = λ n lt. ap length (vector_at v.current room n z p v.ffr.items h.vectors lt)
            ∙ length-take-le v.current (get_or z n []) (omega (arith, fits, h.vectors.long n lt)) ∙ h.current;
        predicate_count = length-map p (λ row. truths_of (take (v.current / 8) row)) ∙ h.predicates.count;
        predicate_length = λ n lt. ap length (predicate_at v.current (room / 8) n z p v.ffr.items h.predicates lt)
            ∙ of_bits (get_or p n []) (omega (arith, fits, h.predicates.long n lt));
        ffr_length = of_bits v.ffr.items (omega (arith, fits, h.first_fault));
      }
