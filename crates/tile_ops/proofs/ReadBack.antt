-- Slices that were written.
use Rattle.std.proofs.Common.{◌≡◌, ◌≢◌, ℕ, zero, suc, ◌+◌, ◌-◌, ◌*◌, ◌/◌, ◌%◌, ◌<◌, ◌≤◌, Bool}
use Rattle.std.proofs.Common.{true, false, List, [], ◌∷◌, ◌++◌, length, take, drop, get_or, set, refl, ap}
use Rattle.std.proofs.Common.{◌∙◌, sym, arith, inl, inr}
use Rattle.std.proofs.lemmas.Bool.{cases_lt, cond-true, cond-false}
use Rattle.std.proofs.lemmas.List.{append_assoc, take_at, drop_at, length-take-le, get_or-set_same}
use Rattle.std.proofs.lemmas.List.{get_or-set_other, length-set, take-append-drop, drop-drop, length-append}
use Rattle.std.proofs.Math.Nat.{mul-le-mul_left}
use Rattle.std.specs.List.{concat}
use Rattle.plain_lemmas.proofs.Lists.{take_within}
use Rattle.vector_elements.specs.Elements.{listed}
use Rattle.tile_ops.specs.declared.slices.SliceAt.{SliceAt}
use Rattle.za_array.specs.Array.{IsSquare}
use Rattle.za_array.specs.Tiles.{tile_vector, tile_element, changed_tile, horizontal_slice, vertical_slice}
use Rattle.tile_ops.specs.Slices.{IsSliceOf, slice_bytes, element_bytes, with_element, with_vertical, with_slice}
use Rattle.tile_ops.specs.Laws.{AreWritten, ReadsWritten, KeepsElements, KeepsTiles}
use Rattle.tile_ops.proofs.Filled.{IsFilledTo, filled_next, filled_all, length-element, within}
use Rattle.tile_ops.proofs.Joined.{all_elements}
use Rattle.za_array.proofs.Changed.{row_below, row_of, tile_of, length-changed, changed_row, kept_vector}

-- an element that was written, and those beside it
pub element-with_element : (e : ℕ) (bytes : List ℕ) (i : ℕ) (x : List ℕ) → i * e + e ≤ length bytes → length x ≡ e
    → element_bytes e (with_element e bytes i x) i ≡ x
element-with_element e bytes i x room long =
    let back = drop (i * e + e) bytes in
    let first : length (take (i * e) bytes) ≡ i * e = length-take-le (i * e) bytes (omega arith) in
    ap (take e) (drop_at (take (i * e) bytes) (x ++ back) (i * e) first) ∙ take_at x back e long

behind : (e : ℕ) (bytes : List ℕ) (i : ℕ) (x : List ℕ) → i * e + e ≤ length bytes → length x ≡ e
    → drop (i * e + e) (with_element e bytes i x) ≡ drop (i * e + e) bytes
behind e bytes i x room long =
    let front = take (i * e) bytes in
    let back = drop (i * e + e) bytes in
    let first : length front ≡ i * e = length-take-le (i * e) bytes (omega arith) in
    ap (drop (i * e + e)) (sym (append_assoc front x back))
    ∙ drop_at (front ++ x) back _ (length-append front x ∙ omega (arith, first, long))

pub other-with_element : (e : ℕ) (bytes : List ℕ) (i k : ℕ) (x : List ℕ) → i * e + e ≤ length bytes → length x ≡ e
    → k ≢ i → element_bytes e (with_element e bytes i x) k ≡ element_bytes e bytes k
other-with_element e bytes i k x room long other = elim (cases_lt k i) [
  | inl before ↦
      let front = take (i * e) bytes in
      let least : e * (k + 1) ≤ e * i = mul-le-mul_left e (omega arith) in
      let first : length front ≡ i * e = length-take-le (i * e) bytes (omega arith) in
      let inside : k * e + e ≤ length front = omega (arith, least, first) in
      take_within e (k * e) front (x ++ drop (i * e + e) bytes) inside
      ∙ sym (take_within e (k * e) front (drop (i * e) bytes) inside)
      ∙ ap (λ t. take e (drop (k * e) t)) (take-append-drop (i * e) bytes)
  | inr from ↦
      let least : e * (i + 1) ≤ e * k = mul-le-mul_left e (omega arith) in
      let more : i * e + e + (k * e - (i * e + e)) ≡ k * e = omega (arith, least) in
      ap (λ n. take e (drop n (with_element e bytes i x))) (sym more)
      ∙ ap (take e) (sym (drop-drop (k * e - (i * e + e)) (i * e + e) (with_element e bytes i x)))
      ∙ ap (λ t. take e (drop (k * e - (i * e + e)) t)) (behind e bytes i x room long)
      ∙ ap (take e) (drop-drop (k * e - (i * e + e)) (i * e + e) bytes)
      ∙ ap (λ n. take e (drop n bytes)) more
]

pub length-tile_row : (size e tile r : ℕ) (za : List (List ℕ)) → IsSquare size za → tile < e → r < size / e
    → length (get_or za (tile_vector e tile r) []) ≡ size
length-tile_row size e tile r za square t below = square.long (tile_vector e tile r) (row_below e tile size r t below)

-- the bytes of a row are its elements
pub row_read : (size : ℕ) (slice : SliceAt) (za : List (List ℕ)) → IsSquare size za → IsSliceOf size slice
    → get_or za (tile_vector slice.bytes slice.tile slice.number) [] ≡ concat (horizontal_slice slice.bytes slice.tile za slice.number)
unfolding horizontal_slice
row_read size slice za square h =
    let row = get_or za (tile_vector slice.bytes slice.tile slice.number) [] in
    sym (all_elements slice.bytes row size (length-tile_row size slice.bytes slice.tile slice.number za square h.tile h.number) h.whole)
    ∙ ap (λ k. concat (listed (element_bytes slice.bytes row) (k / slice.bytes))) (sym square.count)

-- a column that is read, one row further, and at its end
pub column_next : (size : ℕ) (slice : SliceAt) (za : List (List ℕ)) (old now row : List ℕ) (r : ℕ) → IsSliceOf size slice
    → r < size / slice.bytes → length now ≡ size → length row ≡ size → row ≡ get_or za (tile_vector slice.bytes slice.tile r) []
    → IsFilledTo slice.bytes (λ k. tile_element slice.bytes slice.tile za k slice.number) old now r
    → IsFilledTo slice.bytes (λ k. tile_element slice.bytes slice.tile za k slice.number) old
    (with_element slice.bytes now r (element_bytes slice.bytes row slice.number)) (r + 1)
column_next size slice za old now row r h below long_now long is so_far =
    let room = within size slice.bytes r below in
    let inside = within size slice.bytes slice.number h.number in
    filled_next slice.bytes _ old now r (element_bytes slice.bytes row slice.number) so_far (omega (arith, room, long_now))
    (length-element slice.bytes row slice.number (omega (arith, inside, long)))
    (ap (λ t. element_bytes slice.bytes t slice.number) is)

pub column_read : (size : ℕ) (slice : SliceAt) (za : List (List ℕ)) (old now : List ℕ) (r : ℕ) → IsSquare size za
    → IsSliceOf size slice → length now ≡ size → r ≡ size / slice.bytes
    → IsFilledTo slice.bytes (λ k. tile_element slice.bytes slice.tile za k slice.number) old now r
    → now ≡ concat (vertical_slice slice.bytes slice.tile za slice.number)
unfolding vertical_slice
column_read size slice za old now r square h long count so_far =
    filled_all slice.bytes _ old now r size h.whole long count so_far
    ∙ ap (λ n. concat (listed (λ k. tile_element slice.bytes slice.tile za k slice.number) (n / slice.bytes))) (sym square.count)

-- a row that was written is read back
row_written : (size e tile i : ℕ) (bytes : List ℕ) (za : List (List ℕ)) → IsSquare size za → tile < e → i < size / e
    → get_or (set za (tile_vector e tile i) bytes) (tile_vector e tile i) [] ≡ bytes
row_written size e tile i bytes za square t below =
    get_or-set_same za (tile_vector e tile i) bytes [] (let inside = row_below e tile size i t below in omega (arith, inside, square.count))

reads_row : (size e tile i : ℕ) (bytes : List ℕ) (za : List (List ℕ)) → IsSquare size za → tile < e → size % e ≡ 0
    → i < size / e → length bytes ≡ size
    → concat (horizontal_slice e tile (set za (tile_vector e tile i) bytes) i) ≡ bytes
unfolding horizontal_slice
reads_row size e tile i bytes za square t whole below long =
    let now = set za (tile_vector e tile i) bytes in
    let count : length now ≡ size = length-set za (tile_vector e tile i) bytes ∙ square.count in
    ap (λ k. concat (listed (tile_element e tile now i) (k / e))) count
    ∙ ap (λ row. concat (listed (element_bytes e row) (size / e))) (row_written size e tile i bytes za square t below)
    ∙ all_elements e bytes size long whole

listed_same : (f g : ℕ → List ℕ) (n : ℕ) → ((i : ℕ) → i < n → f i ≡ g i) → listed f n ≡ listed g n
unfolding listed
listed_same f g zero same = refl
listed_same f g (suc n) same =
    ap (λ t. t ++ f n ∷ []) (listed_same f g n (λ i below. same i (omega arith)))
    ∙ ap (λ x. listed g n ++ x ∷ []) (same n (omega arith))

-- element (r, c) of the tile after a vertical slice was written
pub vertical_element : (size : ℕ) (slice : SliceAt) (bytes : List ℕ) (za : List (List ℕ)) (r c : ℕ) → AreWritten size slice bytes za
    → r < size / slice.bytes
    → tile_element slice.bytes slice.tile (changed_tile slice.bytes slice.tile (with_vertical slice bytes) za) r c
    ≡ element_bytes slice.bytes (with_vertical slice bytes r (get_or za (tile_vector slice.bytes slice.tile r) [])) c
vertical_element size slice bytes za r c h row =
    ap (λ t. element_bytes slice.bytes t c)
    (changed_row slice.bytes slice.tile (with_vertical slice bytes) za r h.slice_of.tile (rw h.square.count row))

reads_column : (size : ℕ) (slice : SliceAt) (bytes : List ℕ) (za : List (List ℕ)) → AreWritten size slice bytes za
    → concat (vertical_slice slice.bytes slice.tile (changed_tile slice.bytes slice.tile (with_vertical slice bytes) za) slice.number)
    ≡ bytes
unfolding vertical_slice
reads_column size slice bytes za h =
    let e = slice.bytes in
    let change = with_vertical slice bytes in
    let now = changed_tile e slice.tile change za in
    let count : length now ≡ size = length-changed e slice.tile change za ∙ h.square.count in
    ap (λ k. concat (listed (λ r. tile_element e slice.tile now r slice.number) (k / e))) count
    ∙ ap concat (listed_same _ (element_bytes e bytes) (size / e) (λ r row.
    vertical_element size slice bytes za r slice.number h row
    ∙ element-with_element e (get_or za (tile_vector e slice.tile r) []) slice.number (element_bytes e bytes r)
    (let room = within size e slice.number h.slice_of.number in
    let long = length-tile_row size e slice.tile r za h.square h.slice_of.tile row in omega (arith, room, long))
    (length-element e bytes r (let room = within size e r row in let long = h.long in omega (arith, room, long)))))
    ∙ all_elements e bytes size h.long h.slice_of.whole

-- what is written, and read, by the direction of the slice
written_vertical : (slice : SliceAt) (bytes : List ℕ) (za : List (List ℕ)) → slice.vertical ≡ true
    → with_slice slice bytes za ≡ changed_tile slice.bytes slice.tile (with_vertical slice bytes) za
unfolding with_slice
written_vertical slice bytes za is = cond-true slice.vertical _ _ is

written_horizontal : (slice : SliceAt) (bytes : List ℕ) (za : List (List ℕ)) → slice.vertical ≡ false
    → with_slice slice bytes za ≡ set za (tile_vector slice.bytes slice.tile slice.number) bytes
unfolding with_slice
written_horizontal slice bytes za is = cond-false slice.vertical _ _ is

pub reads_written : ReadsWritten
reads_written size slice bytes za h = go slice.vertical refl
  where
    go : (v : Bool) → slice.vertical ≡ v → slice_bytes slice (with_slice slice bytes za) ≡ bytes
    go true is =
        ap (slice_bytes slice) (written_vertical slice bytes za is) ∙ ap concat (cond-true slice.vertical _ _ is)
        ∙ reads_column size slice bytes za h
    go false is =
        ap (slice_bytes slice) (written_horizontal slice bytes za is) ∙ ap concat (cond-false slice.vertical _ _ is)
        ∙ reads_row size slice.bytes slice.tile slice.number bytes za h.square h.slice_of.tile h.slice_of.whole h.slice_of.number h.long

pub keeps_elements : KeepsElements
keeps_elements size slice bytes za h r c row column other = go slice.vertical refl
  where
    go : (v : Bool) → slice.vertical ≡ v
        → tile_element slice.bytes slice.tile (with_slice slice bytes za) r c ≡ tile_element slice.bytes slice.tile za r c
    go true is =
        ap (λ t. tile_element slice.bytes slice.tile t r c) (written_vertical slice bytes za is)
        ∙ vertical_element size slice bytes za r c h row
        ∙ other-with_element slice.bytes (get_or za (tile_vector slice.bytes slice.tile r) []) slice.number c
        (element_bytes slice.bytes bytes r)
        (let room = within size slice.bytes slice.number h.slice_of.number in
        let long = length-tile_row size slice.bytes slice.tile r za h.square h.slice_of.tile row in omega (arith, room, long))
        (length-element slice.bytes bytes r (let room = within size slice.bytes r row in let long = h.long in omega (arith, room, long)))
        (λ same. other (cond-true slice.vertical c r is ∙ same))
    go false is =
        ap (λ t. tile_element slice.bytes slice.tile t r c) (written_horizontal slice bytes za is)
        ∙ ap (λ t. element_bytes slice.bytes t c)
        (get_or-set_other za (tile_vector slice.bytes slice.tile slice.number) (tile_vector slice.bytes slice.tile r) bytes []
        (λ same. other (cond-false slice.vertical c r is ∙ sym (row_of slice.bytes slice.tile r h.slice_of.tile)
        ∙ ap (λ v. v / slice.bytes) same ∙ row_of slice.bytes slice.tile slice.number h.slice_of.tile)))

pub keeps_tiles : KeepsTiles
keeps_tiles size slice bytes za h v other = go slice.vertical refl
  where
    go : (b : Bool) → slice.vertical ≡ b → get_or (with_slice slice bytes za) v [] ≡ get_or za v []
    go true is =
        ap (λ t. get_or t v []) (written_vertical slice bytes za is)
        ∙ kept_vector slice.bytes slice.tile (with_vertical slice bytes) za v other
    go false is =
        ap (λ t. get_or t v []) (written_horizontal slice bytes za is)
        ∙ get_or-set_other za (tile_vector slice.bytes slice.tile slice.number) v bytes []
        (λ same. other (ap (λ k. k % slice.bytes) same ∙ tile_of slice.bytes slice.tile slice.number h.slice_of.tile))
