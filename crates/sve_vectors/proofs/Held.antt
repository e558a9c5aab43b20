-- Rows, and the registers in them.
use Rattle.std.proofs.Common.{◌≡◌, ℕ, ◌+◌, ◌<◌, ◌≤◌, ◌/◌, ◌%◌, Bool, true, false, List, [], length, take, set, replicate, get_or, refl, ap}
use Rattle.std.proofs.Common.{◌∙◌, sym, inl, inr, arith, Vec, Global}
use Rattle.std.proofs.lemmas.List.{get_or-map, length-map, map-set, get_or-set_same, get_or-set_other}
use Rattle.std.proofs.lemmas.Bool.{cases_eq}
use Rattle.sm_types.specs.declared.length.VecLen.{VecLen}
use Rattle.sm_types.specs.declared.length.VecLen.TheVariants.{Bits128, Bits256, Bits512, Bits1024, Bits2048}
use Rattle.sve_vectors.specs.Lengths.{vector_bytes, current_bytes}
use Rattle.sve_vectors.specs.Predicates.{truths_of}
use Rattle.sve_vectors.specs.Layout.{registers_of_rows, room_of, items_of, AreRows}

pub whole_bytes : (l : VecLen) → (vector_bytes l % 16 ≡ 0) × (vector_bytes l ≤ 256)
whole_bytes Bits128 = (refl, omega arith)
whole_bytes Bits256 = (refl, omega arith)
whole_bytes Bits512 = (refl, omega arith)
whole_bytes Bits1024 = (refl, omega arith)
whole_bytes Bits2048 = (refl, omega arith)

pub whole_current : (vl svl : VecLen) (on : Bool) → (current_bytes vl svl on % 16 ≡ 0) × (current_bytes vl svl on ≤ 256)
whole_current vl svl true = whole_bytes svl
whole_current vl svl false = whole_bytes vl

pub current_fits : (vl svl : VecLen) (on : Bool) → current_bytes vl svl on ≤ room_of vl svl
current_fits vl svl true = omega arith
current_fits vl svl false = omega arith

pub vector_at : (bytes size n : ℕ) (z p : List (List ℕ)) (ffr : List ℕ) → AreRows 32 size z → n < 32
    → get_or (registers_of_rows bytes z p ffr).vectors n [] ≡ take bytes (get_or z n [])
unfolding registers_of_rows
vector_at bytes size n z p ffr h lt = get_or-map (take bytes) z n [] [] (omega (arith, h.count))

pub predicate_at : (bytes size n : ℕ) (z p : List (List ℕ)) (ffr : List ℕ) → AreRows 16 size p → n < 16
    → get_or (registers_of_rows bytes z p ffr).predicates n [] ≡ truths_of (take (bytes / 8) (get_or p n []))
unfolding registers_of_rows
predicate_at bytes size n z p ffr h lt = get_or-map (λ row. truths_of (take (bytes / 8) row)) p n [] [] (omega (arith, h.count))

pub ffr_is : (bytes : ℕ) (z p : List (List ℕ)) (ffr : List ℕ) → (registers_of_rows bytes z p ffr).ffr ≡ truths_of (take (bytes / 8) ffr)
unfolding registers_of_rows
ffr_is bytes z p ffr = refl

-- the row that was found at a place
pub held : (rows : List (Vec ℕ Global)) (n : ℕ) (v : Vec ℕ Global) → n < length rows → v ≡ get_or rows n v
    → get_or (items_of rows) n [] ≡ v.items
held rows n v lt is = get_or-map (λ (x : Vec ℕ Global). x.items) rows n v [] lt ∙ ap (λ (x : Vec ℕ Global). x.items) (sym is)

pub length-items : (rows : List (Vec ℕ Global)) → length (items_of rows) ≡ length rows
length-items rows = length-map rows (λ (v : Vec ℕ Global). v.items)

pub items-set : (rows : List (Vec ℕ Global)) (n : ℕ) (v : Vec ℕ Global) → items_of (set rows n v) ≡ set (items_of rows) n v.items
items-set rows n v = map-set (λ (x : Vec ℕ Global). x.items) rows n v

-- one more row is cleared
pub cleared_more : (now : List (List ℕ)) (i size : ℕ) (row : List ℕ) → i < length now → take size row ≡ replicate size 0
    → ((k : ℕ) → k < i → take size (get_or now k []) ≡ replicate size 0)
    → (k : ℕ) → k < i + 1 → take size (get_or (set now i row) k []) ≡ replicate size 0
cleared_more now i size row lt is before k below = elim (cases_eq k i) [
  | inl e ↦ rw e (ap (take size) (get_or-set_same now i row [] lt) ∙ is)
  | inr e ↦ ap (take size) (get_or-set_other now i k row [] e) ∙ before k (omega arith)
]

-- and each is as long as it was
pub long_more : (old now : List (List ℕ)) (i : ℕ) (row : List ℕ) → i < length now → length row ≡ length (get_or now i [])
    → (k : ℕ) → length (get_or now k []) ≡ length (get_or old k [])
    → length (get_or (set now i row) k []) ≡ length (get_or old k [])
long_more old now i row lt is k before = elim (cases_eq k i) [
  | inl e ↦ rw e (ap length (get_or-set_same now i row [] lt) ∙ is ∙ (rw e at before))
  | inr e ↦ ap length (get_or-set_other now i k row [] e) ∙ before
]

pub room_at : (rows : List (Vec ℕ Global)) (m size n : ℕ) (v : Vec ℕ Global) → AreRows m size (items_of rows) → n < m
    → v ≡ get_or rows n v → length v.items ≡ size
room_at rows m size n v h lt is =
    ap length (sym (held rows n v (omega (arith, h.count, length-items rows)) is)) ∙ h.long n lt
