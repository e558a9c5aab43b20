-- Instructions of ZA that access no memory keep its shape and bytes.
use Rattle.std.proofs.Common.{◌≡◌, ℕ, ◌+◌, ◌*◌, ◌/◌, ◌%◌, ◌<◌, ◌≤◌, ◌==◌, Bool, true, false, List, [], ◌++◌, length, take, drop, get_or}
use Rattle.std.proofs.Common.{refl, sym, ap, ◌∙◌, arith, subst, inl, inr, length-append, length-drop, length-set, replicate}
use Rattle.std.proofs.Common.{if◌then◌else◌, slice_set}
use Rattle.std.specs.Prelude.{All}
use Rattle.std.specs.List.{concat}
use Rattle.std.proofs.lemmas.Bool.{cases_lt}
use Rattle.std.proofs.lemmas.List.{get_or_past, length-replicate, length-take-le}
use Rattle.std.proofs.lemmas.Nat.{mod_below, div_below}
use Rattle.std.proofs.Math.Nat.{mul-le-mul_left}
use Rattle.std.proofs.lemmas.List.Elements.{All-nil, All-append, All-get_or, All-from_get_or, All-set, All-replicate, All-take, All-drop}
use Rattle.sm_types.specs.declared.scalars.Scalars.{Scalars}
use Rattle.sm_types.specs.declared.insn.Insn.{Insn}
use Rattle.sm_types.specs.declared.insn.Insn.TheVariants as insn
use Rattle.sm_types.specs.declared.vector.Elem.{Elem}
use Rattle.sm_types.specs.declared.vector.Elem.TheVariants as elem
use Rattle.sm_types.specs.declared.matrix as types
use types.{TileMove.TileMove, TileSlice.TileSlice}
use types.ArrayAccess.TheVariants.{Zero, Transfer}
use types.StreamingLength.TheVariants as streaming
use Rattle.sve_table.specs.Ranges.{IsInVectorRow, IsTileSlice, IsTileMove, tiles}
use Rattle.vector_elements.specs.declared.size.Size.{Size}
use Rattle.vector_elements.specs.declared.size.Size.TheVariants.{B, H, S, D}
use Rattle.vector_elements.specs.Elements.{listed, is_active, each_active}
use Rattle.vector_elements.specs.Numbers.{bytes_in, range_of}
use Rattle.vector_elements.proofs.Lists.{length-listed, listed-at, some_bytes}
use Rattle.outer_products.proofs.Numbers.{wrapped_fits}
use Rattle.outer_products.specs.OuterProducts.{outer_row, sum_size}
use Rattle.sve_vectors.specs.Registers.{vector_at, predicate_at, vector_written}
use Rattle.za_array.specs.Tiles.{tile_vector, tile_element, changed_vector, changed_tile, horizontal_slice, vertical_slice}
use Rattle.tile_ops.specs.declared.slices.SliceAt.{SliceAt}
use Rattle.tile_ops.specs.Slices.{IsSliceOf, slice_bytes, element_bytes, with_vertical, with_slice, slice_number}
use Rattle.tile_ops.specs.Moves.{chosen_element, merged, moved_to_tile, moved_to_vector}
use Rattle.tile_ops.specs.Named.{element_size, slice_of}
use Rattle.tile_ops.specs.Sums.{row_sum, addend_of}
use Rattle.tile_ops.proofs.Filled.{length-element}
use Rattle.tile_ops.proofs.Joined.{length-joined}
use Rattle.predicates.specs.Counts.{vector_lengths, lengths_added}
use Rattle.matrix_step.specs.Lengths.{after_streaming_length}
use Rattle.matrix_step.specs.Step.{MatrixCore, matrix_step, zeroed_tiles, is_zeroed, after_move, after_add, after_outer_product, added_size}
use Rattle.reach_laws.proofs.Fits.{Fits, AreBytes, Holds, IsLength, IsArray}
use Rattle.reach_laws.proofs.Scalars.{fits_x, fits_x_or_sp}
use Rattle.reach_laws.proofs.Bytes.{are_concat, all_listed}
use Rattle.reach_laws.proofs.Registers.{vector_long, vector_bytes_at, holds_vector, each_long, are_each, whole_size}
use Rattle.scalar_exec.specs.Registers.{x_of}
use Rattle.machine_step.specs.Effect.{is_of_tiles}

-- ---- rows

module _ (size : ℕ) (za : List (List ℕ)) (h : IsArray size za) where
  pub row_bytes : (v : ℕ) → AreBytes (get_or za v [])
  row_bytes v = elim (cases_lt v (length za)) [
    | inl below ↦ All-get_or AreBytes za v [] below h.bytes
    | inr past ↦ subst AreBytes (sym (get_or_past za v [] past)) (All-nil (λ b. b < 256))
  ]

  -- a vector is written
  pub array_set : (n : ℕ) (row : List ℕ) → length row ≡ size → AreBytes row → IsArray size (slice_set za n row)
  array_set n row long small =
      let rows : All (λ (x : List ℕ). length x ≡ size) za =
      All-from_get_or (λ (x : List ℕ). length x ≡ size) za [] (λ v lt. h.square.long v (let c = h.square.count in omega arith)) in
      let after = All-set (λ (x : List ℕ). length x ≡ size) za n row long rows in
      let count : length (slice_set za n row) ≡ size = length-set za n row ∙ h.square.count in
      record {
        square = record {
          count = count;
          long = λ v lt. All-get_or (λ (x : List ℕ). length x ≡ size) (slice_set za n row) v [] (omega arith) after;
        };
        bytes = All-set AreBytes za n row small h.bytes;
      }

  -- a row of a vector's bytes, of elements of so many bytes
  abbrev IsRow : ℕ → ℕ → List ℕ → Type 0
  IsRow e r row = (r * e + e ≤ size) × (length row ≡ size) × AreBytes row

  place_within : (e v : ℕ) → 0 < e → size % e ≡ 0 → v < size → v / e * e + e ≤ size
  place_within e v some whole below =
      let count : size / e * e ≡ size = omega arith in
      let less : v / e < size / e = div_below v e (size / e) some (omega arith) in
      let m = mul-le-mul_left e (let k : v / e + 1 ≤ size / e = omega arith in k) in
      omega (arith, m)

  -- a tile is changed, row by row
  pub array_changed : (e tile : ℕ) (change : ℕ → List ℕ → List ℕ) → 0 < e → size % e ≡ 0
      → ((r : ℕ) (row : List ℕ) → IsRow e r row → (length (change r row) ≡ size) × AreBytes (change r row))
      → IsArray size (changed_tile e tile change za)
  unfolding changed_tile
  array_changed e tile change some whole keeps =
      let f = changed_vector e tile change za in
      let each : (v : ℕ) → v < size → (length (f v) ≡ size) × AreBytes (f v) =
      λ v lt. elim (v % e == tile) as (λ t. (length (if t then change (v / e) (get_or za v []) else get_or za v []) ≡ size)
      × AreBytes (if t then change (v / e) (get_or za v []) else get_or za v [])) [
        | true ↦ keeps (v / e) (get_or za v []) (place_within e v some whole lt, h.square.long v lt, row_bytes v)
        | false ↦ (h.square.long v lt, row_bytes v)
      ] in
      let count : length (listed f (length za)) ≡ size = length-listed f (length za) ∙ h.square.count in
      let at : (v : ℕ) → v < size → get_or (listed f (length za)) v [] ≡ f v =
      λ v lt. listed-at f (length za) v [] (let c = h.square.count in omega arith) in
      record {
        square = record { count = count; long = λ v lt. ap length (at v lt) ∙ (each v lt).0 };
        bytes = All-from_get_or AreBytes (listed f (length za)) [] (λ v lt.
            let below : v < size = omega (arith, count) in
            subst AreBytes (sym (at v below)) (each v below).1);
      }

-- ---- slices

-- a slice is of elements, and of whole ones
pub record IsSlice (size : ℕ) (slice : SliceAt) : Type 0 where
  pub of : IsSliceOf size slice
  pub some : 0 < slice.bytes

count_times : (n e : ℕ) → n % e ≡ 0 → n / e * e ≡ n
count_times n e whole = omega arith

last_within : (i n e : ℕ) → n % e ≡ 0 → i < n / e → i * e + e ≤ n
last_within i n e whole lt =
    let count : n / e * e ≡ n = omega arith in
    let m = mul-le-mul_left e (let k : i + 1 ≤ n / e = omega arith in k) in
    omega (arith, m)

module _ (size : ℕ) (za : List (List ℕ)) (h : IsArray size za) (slice : SliceAt) (k : IsSlice size slice) where
  tile_below : (r : ℕ) → r < size / slice.bytes → tile_vector slice.bytes slice.tile r < size
  tile_below r lt = let t = k.of.tile in let w = last_within r size slice.bytes k.of.whole lt in omega arith

  tile_long : (r c : ℕ) → r < size / slice.bytes → c < size / slice.bytes
      → length (tile_element slice.bytes slice.tile za r c) ≡ slice.bytes
  tile_long r c lt below =
      let row = get_or za (tile_vector slice.bytes slice.tile r) [] in
      let long : length row ≡ size = h.square.long _ (tile_below r lt) in
      let within = last_within c size slice.bytes k.of.whole below in
      length-element slice.bytes row c (omega arith)

  tile_bytes : (r c : ℕ) → AreBytes (tile_element slice.bytes slice.tile za r c)
  tile_bytes r c =
      let row = get_or za (tile_vector slice.bytes slice.tile r) [] in
      All-take (λ b. b < 256) slice.bytes (drop (c * slice.bytes) row)
      (All-drop (λ b. b < 256) (c * slice.bytes) row (row_bytes size za h (tile_vector slice.bytes slice.tile r)))

  count_of_rows : length za / slice.bytes ≡ size / slice.bytes
  count_of_rows = ap (λ n. n / slice.bytes) h.square.count

  joined : (f : ℕ → List ℕ) → ((i : ℕ) → i < size / slice.bytes → length (f i) ≡ slice.bytes)
      → length (concat (listed f (length za / slice.bytes))) ≡ size
  joined f each =
      ap (λ n. length (concat (listed f n))) count_of_rows ∙ length-joined slice.bytes f (size / slice.bytes) each
      ∙ count_times size slice.bytes k.of.whole

  pub slice_long : length (slice_bytes slice za) ≡ size
  unfolding horizontal_slice vertical_slice
  slice_long = elim slice.vertical as (λ t. length (concat (if t then vertical_slice slice.bytes slice.tile za slice.number
      else horizontal_slice slice.bytes slice.tile za slice.number)) ≡ size) [
        | true ↦ joined (λ r. tile_element slice.bytes slice.tile za r slice.number) (λ i lt. tile_long i slice.number lt k.of.number)
        | false ↦ joined (tile_element slice.bytes slice.tile za slice.number) (λ i lt. tile_long slice.number i k.of.number lt)
      ]

  pub slice_small : AreBytes (slice_bytes slice za)
  unfolding horizontal_slice vertical_slice
  slice_small = elim slice.vertical as (λ t. AreBytes (concat (if t then vertical_slice slice.bytes slice.tile za slice.number
      else horizontal_slice slice.bytes slice.tile za slice.number))) [
        | true ↦ are_concat _ (all_listed AreBytes (λ r. tile_element slice.bytes slice.tile za r slice.number) (length za / slice.bytes)
            (λ i. tile_bytes i slice.number))
        | false ↦ are_concat _ (all_listed AreBytes (tile_element slice.bytes slice.tile za slice.number) (length za / slice.bytes)
            (λ i. tile_bytes slice.number i))
      ]

  -- an element of a row is replaced by one of the bytes
  vertical_keeps : (bytes : List ℕ) → length bytes ≡ size → AreBytes bytes → (r : ℕ) (row : List ℕ) → IsRow size za h slice.bytes r row
      → (length (with_vertical slice bytes r row) ≡ size) × AreBytes (with_vertical slice bytes r row)
  vertical_keeps bytes long small r row i =
      let e = slice.bytes in
      let at = slice.number * e in
      let new = element_bytes e bytes r in
      let room = last_within slice.number size e k.of.whole k.of.number in
      let row_long = i.1 in
      let place = i.0 in
      let front = length-take-le at row (omega (arith, row_long)) in
      let middle = length-element e bytes r (omega (arith, place)) in
      let back = length-drop (at + e) row in
      let inner = length-append new (drop (at + e) row) in
      let outer = length-append (take at row) (new ++ drop (at + e) row) in (
        omega (arith, front, middle, back, inner, outer, row_long),
        All-append (λ b. b < 256) (take at row) (new ++ drop (at + e) row) (All-take (λ b. b < 256) at row i.2)
            (All-append (λ b. b < 256) new (drop (at + e) row)
            (All-take (λ b. b < 256) e (drop (r * e) bytes) (All-drop (λ b. b < 256) (r * e) bytes small))
            (All-drop (λ b. b < 256) (at + e) row i.2)),
      )

  pub slice_written : (bytes : List ℕ) → length bytes ≡ size → AreBytes bytes → IsArray size (with_slice slice bytes za)
  unfolding with_slice
  slice_written bytes long small = elim slice.vertical as (λ t. IsArray size (if t
      then changed_tile slice.bytes slice.tile (with_vertical slice bytes) za
      else slice_set za (tile_vector slice.bytes slice.tile slice.number) bytes)) [
        | true ↦ array_changed size za h slice.bytes slice.tile (with_vertical slice bytes) k.some k.of.whole
            (vertical_keeps bytes long small)
        | false ↦ array_set size za h (tile_vector slice.bytes slice.tile slice.number) bytes long small
      ]

-- what is merged of two vectors of a length
pub merged_long : (e : ℕ) (pg new old : List ℕ) (n : ℕ) → n % e ≡ 0 → length new ≡ n → length old ≡ n → length (merged e pg new old) ≡ n
unfolding merged
merged_long e pg new old n whole a b =
    let each : (i : ℕ) → i < n / e → length (chosen_element e pg new old i) ≡ e =
    λ i lt. let room = last_within i n e whole lt in
    elim (is_active e pg i) as (λ t. length (if t then element_bytes e new i else element_bytes e old i) ≡ e) [
      | true ↦ length-element e new i (omega (arith, room))
      | false ↦ length-element e old i (omega (arith, room))
    ] in
    ap (λ k. length (concat (listed (chosen_element e pg new old) (k / e)))) b ∙ length-joined e _ (n / e) each ∙ count_times n e whole

pub are_merged : (e : ℕ) (pg new old : List ℕ) → AreBytes new → AreBytes old → AreBytes (merged e pg new old)
unfolding merged
are_merged e pg new old a b =
    are_concat _ (all_listed AreBytes (chosen_element e pg new old) (length old / e) (λ i.
    elim (is_active e pg i) as (λ t. AreBytes (if t then element_bytes e new i else element_bytes e old i)) [
      | true ↦ All-take (λ x. x < 256) e (drop (i * e) new) (All-drop (λ x. x < 256) (i * e) new a)
      | false ↦ All-take (λ x. x < 256) e (drop (i * e) old) (All-drop (λ x. x < 256) (i * e) old b)
    ]))

-- the slice that an instruction names
pub is_slice : (x : TileSlice) (s : Scalars) (size : ℕ) → IsTileSlice x → IsLength size → IsSlice size (slice_of x s size)
is_slice x s size i w = by_size x.size i.tile
  where
    whole : (t : Elem) → size % element_size t ≡ 0
    whole elem.B = let h = w.whole in omega arith
    whole elem.H = let h = w.whole in omega arith
    whole elem.S = let h = w.whole in omega arith
    whole elem.D = let h = w.whole in omega arith
    whole elem.Q = let h = w.whole in omega arith

    some : (t : Elem) → 0 < size / element_size t
    some elem.B = let h = w.some in omega arith
    some elem.H = let h = w.some in omega arith
    some elem.S = let h = w.some in omega arith
    some elem.D = let h = w.some in omega arith
    some elem.Q = let h = w.some in omega arith

    at : (t : Elem) → x.tile < element_size t → 0 < element_size t → IsSlice size (record (slice_of x s size) {
      bytes = element_size t;
      number = slice_number (x_of s x.rv) x.offset (size / element_size t);
    })
    at t below pos = record {
      of = record { tile = below; whole = whole t; number = mod_below _ (size / element_size t) (some t) };
      some = pos;
    }

    by_size : (t : Elem) → x.tile < tiles t → IsSlice size (record (slice_of x s size) {
      bytes = element_size t;
      number = slice_number (x_of s x.rv) x.offset (size / element_size t);
    })
    by_size elem.B below = at elem.B below (omega arith)
    by_size elem.H below = at elem.H below (omega arith)
    by_size elem.S below = at elem.S below (omega arith)
    by_size elem.D below = at elem.D below (omega arith)
    by_size elem.Q below = at elem.Q below (omega arith)

-- ---- instructions

-- what the registers and ZA hold in Streaming SVE mode, or out of it where the vectors are not read
pub record MatrixHolds (l size : ℕ) (s : MatrixCore) : Type 0 where
  pub scalars : Fits s.scalars
  pub registers : Holds l s.registers
  pub za : IsArray size s.za

whole_of : (e : Size) (n : ℕ) → n % 16 ≡ 0 → n % bytes_in e ≡ 0
whole_of e n w = let c = whole_size e n w in sized e
  where
    sized : (e : Size) → n % bytes_in e ≡ 0
    sized B = omega arith
    sized H = omega arith
    sized S = omega arith
    sized D = omega arith

module _ (size : ℕ) (w : IsLength size) (s : MatrixCore) where
  zeroed : (mask : ℕ) → IsArray size s.za → IsArray size (zeroed_tiles mask s.za)
  unfolding zeroed_tiles
  zeroed mask h =
      array_changed size s.za h 1 0 (λ v row. if is_zeroed mask v then replicate (length row) 0 else row) (omega arith) (omega arith)
      (λ r row i. elim (is_zeroed mask r) as (λ t. (length (if t then replicate (length row) 0 else row) ≡ size)
      × AreBytes (if t then replicate (length row) 0 else row)) [
        | true ↦ (length-replicate {A = ℕ} (length row) 0 ∙ i.1, All-replicate (λ b. b < 256) (length row) 0 (omega arith))
        | false ↦ (i.1, i.2)
      ])

  moved_holds : (l : ℕ) (x : TileMove) → l ≡ size → IsTileMove x → MatrixHolds l size s → MatrixHolds l size (after_move x s)
  unfolding after_move
  moved_holds l x e i h =
      let count = h.za.square.count in
      let slice = slice_of x.slice s.scalars (length s.za) in
      let k : IsSlice size slice = subst (λ n. IsSlice size (slice_of x.slice s.scalars n)) (sym count)
      (is_slice x.slice s.scalars size i.slice w) in
      let pg = predicate_at s.registers x.pg in
      let z = vector_at s.registers x.z in
      let z_long : length z ≡ size = vector_long l s.registers h.registers x.z i.z ∙ e in
      let z_small = vector_bytes_at l s.registers h.registers x.z in
      let read = slice_long size s.za h.za slice k in
      let read_small = slice_small size s.za h.za slice k in
      elim x.to_tile as (λ t. MatrixHolds l size (if t then record s { za = moved_to_tile slice pg z s.za }
      else record s { registers = vector_written s.registers x.z (moved_to_vector slice pg s.za z) })) [
        | true ↦ record {
          scalars = h.scalars;
          registers = h.registers;
          za = slice_written size s.za h.za slice k _ (merged_long slice.bytes pg z (slice_bytes slice s.za) size k.of.whole z_long read)
              (are_merged slice.bytes pg z (slice_bytes slice s.za) z_small read_small);
        }
        | false ↦ record {
          scalars = h.scalars;
          registers = holds_vector l s.registers x.z _ h.registers
              (merged_long slice.bytes pg (slice_bytes slice s.za) z size k.of.whole read z_long ∙ sym e)
              (are_merged slice.bytes pg (slice_bytes slice s.za) z read_small z_small);
          za = h.za;
        }
      ]

  sum_keeps : (e : Size) (vertical : Bool) (pn pm zn : List ℕ) (r : ℕ) (row : List ℕ) → length row ≡ size → AreBytes row
      → (length (row_sum e vertical pn pm zn r row) ≡ size) × AreBytes (row_sum e vertical pn pm zn r row)
  unfolding row_sum
  sum_keeps e vertical pn pm zn r row long small =
      let summed = each_active (bytes_in e) pm row (λ c old. (old + addend_of e vertical zn r c) % range_of e) in
      elim (is_active (bytes_in e) pn r) as (λ t. (length (if t then summed else row) ≡ size) × AreBytes (if t then summed else row)) [
        | true ↦ (each_long e row _ (ap (λ n. n % 16) long ∙ w.whole) ∙ long, are_each (bytes_in e) row _)
        | false ↦ (long, small)
      ]

  pub matrix_step_holds : (l : ℕ) (it : Insn) → (is_of_tiles it ≡ true → l ≡ size) → IsInVectorRow it → MatrixHolds l size s
      → MatrixHolds l size (matrix_step it s)
  unfolding matrix_step after_add after_outer_product outer_row after_streaming_length vector_lengths lengths_added
  matrix_step_holds l (insn.ArrayAccess (Zero mask)) e i h = record { scalars = h.scalars; registers = h.registers; za = zeroed mask h.za }
  matrix_step_holds l (insn.ArrayAccess (Transfer store rv offset rn)) e i h = h
  matrix_step_holds l (insn.TileMove x) e i h = moved_holds l x (e refl) i h
  matrix_step_holds l (insn.TileAdd x) e i h = record {
    scalars = h.scalars;
    registers = h.registers;
    za = array_changed size s.za h.za (bytes_in (added_size x.wide)) x.tile _ (some_bytes (added_size x.wide))
        (whole_of (added_size x.wide) size w.whole)
        (λ r row k. sum_keeps (added_size x.wide) x.vertical _ _ _ r row k.1 k.2);
  }
  matrix_step_holds l (insn.OuterProduct x) e i h = record {
    scalars = h.scalars;
    registers = h.registers;
    za = array_changed size s.za h.za (bytes_in (sum_size x.wide)) x.tile _ (some_bytes (sum_size x.wide))
        (whole_of (sum_size x.wide) size w.whole)
        (λ r row k. (
          each_long (sum_size x.wide) row _ (ap (λ n. n % 16) k.1 ∙ w.whole) ∙ k.1,
          are_each
              (bytes_in (sum_size x.wide)) row _,
        ));
  }
  matrix_step_holds l (insn.StreamingLength (streaming.Length imm rd)) e i h = record {
    scalars = fits_x s.scalars rd _ h.scalars (wrapped_fits D _);
    registers = h.registers;
    za = h.za;
  }
  matrix_step_holds l (insn.StreamingLength (streaming.AddLength predicate imm rn rd)) e i h = record {
    scalars = fits_x_or_sp s.scalars rd _ h.scalars (omega arith);
    registers = h.registers;
    za = h.za;
  }
  matrix_step_holds l other e i h = h
