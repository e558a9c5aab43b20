-- The rows of the array.
use Rattle.std.proofs.Common.{◌≡◌, ℕ, ◌<◌, List, [], length, set, get_or, replicate, ap, ◌∙◌, sym, inl, inr, arith, Vec, Global, length-set}
use Rattle.std.specs.Vec.{with_items_from}
use Rattle.std.proofs.lemmas.Bool.{cases_eq}
use Rattle.std.proofs.lemmas.List.{get_or_default, get_or-set_same, get_or-set_other, get_or-replicate, length-replicate, same_lists}
use Rattle.std.proofs.lemmas.List.{take_all}
use Rattle.sm_types.specs.declared.length.VecLen.{VecLen}
use Rattle.sve_vectors.specs.Layout.{items_of, ClearedRows}
use Rattle.sve_vectors.specs.Lending.{overwritten}
use Rattle.sve_vectors.proofs.Held.{held, length-items}
use Rattle.sve_vectors.proofs.Lent.{lent_rows}
use Rattle.sve_vectors.proofs.Writing.{length-overwritten}
use Rattle.za_array.specs.Array.{IsSquare}
use Rattle.za_array.specs.Layout.{state_of_array}
use Rattle.za_array.specs.Lending.{with_array_bytes}

-- rows that were cleared are those of zeros
pub cleared_square : (size : ℕ) (old new : List (List ℕ)) → IsSquare size old → ClearedRows size old new
    → new ≡ replicate size (replicate size 0)
cleared_square size old new s h = same_lists _ _ (h.count ∙ s.count ∙ sym (length-replicate size (replicate size 0))) each
  where
    each : (k : ℕ) (d : List ℕ) → k < length new → get_or new k d ≡ get_or (replicate size (replicate size 0)) k d
    each k d lt =
        let below : k < size = omega (arith, lt, h.count, s.count) in
        let inside : k < length old = omega (arith, below, s.count) in
        let long : length (get_or new k []) ≡ size = h.long k inside ∙ s.long k below in
        get_or_default new k d [] lt ∙ sym (take_all size (get_or new k []) (omega (arith, long))) ∙ h.zero k inside
        ∙ sym (get_or-replicate size k (replicate size 0) d below)

pub row_room : (rows : List (Vec ℕ Global)) (size n : ℕ) (row : Vec ℕ Global) → IsSquare size (items_of rows) → n < size
    → row ≡ get_or rows n row → length row.items ≡ size
row_room rows size n row h lt is =
    ap length (sym (held rows n row (omega (arith, h.count, length-items rows)) is)) ∙ h.long n lt

pub still_square : (rows : List (List ℕ)) (size n : ℕ) (w : List ℕ) → n < size → IsSquare size rows
    → IsSquare size (set rows n (overwritten (get_or rows n []) w))
still_square rows size n w lt h = record {
  count = length-set rows n (overwritten (get_or rows n []) w) ∙ h.count;
  long = long;
}
  where
    long : (k : ℕ) → k < size → length (get_or (set rows n (overwritten (get_or rows n []) w)) k []) ≡ size
    long k l = elim (cases_eq k n) [
      | inl e ↦ rw e (ap length (get_or-set_same rows n (overwritten (get_or rows n []) w) [] (omega (arith, h.count)))
          ∙ length-overwritten (get_or rows n []) w ∙ h.long n lt)
      | inr e ↦ ap length (get_or-set_other rows n k (overwritten (get_or rows n []) w) [] e) ∙ h.long k l
    ]

-- what a write to the slice of a row makes of the array
pub row_lent : (svl : VecLen) (rows : List (Vec ℕ Global)) (size n : ℕ) (row : Vec ℕ Global) (w : List ℕ)
    → IsSquare size (items_of rows) → n < size → row ≡ get_or rows n row
    → state_of_array svl (items_of (set rows n (with_items_from row 0 w))) ≡ with_array_bytes (state_of_array svl (items_of rows)) n w
row_lent svl rows size n row w h lt is =
    ap (state_of_array svl) (lent_rows rows n row w (omega (arith, h.count, length-items rows)) is)

pub row_kept : (rows : List (Vec ℕ Global)) (size n : ℕ) (row : Vec ℕ Global) (w : List ℕ)
    → IsSquare size (items_of rows) → n < size → row ≡ get_or rows n row
    → IsSquare size (items_of (set rows n (with_items_from row 0 w)))
row_kept rows size n row w h lt is =
    rw (lent_rows rows n row w (omega (arith, h.count, length-items rows)) is) (still_square (items_of rows) size n w lt h)
