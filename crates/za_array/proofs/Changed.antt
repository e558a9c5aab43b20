-- The rows of a tile that were changed, and their elements.
use Rattle.std.proofs.Common.{◌≡◌, ◌≢◌, ℕ, ◌+◌, ◌*◌, ◌/◌, ◌%◌, ◌<◌, ◌≤◌, ◌==◌, List, [], length, take, drop, get_or, ap}
use Rattle.std.proofs.Common.{◌∙◌, sym, arith, inl, inr, eq-eqb}
use Rattle.std.proofs.Math.Nat.{mul_comm, mul-le-mul_left}
use Rattle.std.proofs.lemmas.Nat.{mod-mul-add, div-mul-add}
use Rattle.std.proofs.lemmas.Bool.{cases_lt, cond-true, cond-false, ne_eqb}
use Rattle.std.proofs.lemmas.List.{get_or_past}
use Rattle.std.specs.Simd.Lanes.{number_l}
use Rattle.vector_elements.specs.Elements.{element_of}
use Rattle.vector_elements.proofs.Lists.{length-listed}
use Rattle.vector_elements.proofs.Lists.{listed-at}
use Rattle.za_array.specs.Tiles.{tile_vector, changed_vector, changed_tile}

-- row r of a tile is a vector of the array, and its number tells the row and the tile
pub row_below : (e tile n r : ℕ) → tile < e → r < n / e → tile_vector e tile r < n
row_below e tile n r t below =
    let least : e * (r + 1) ≤ e * (n / e) = mul-le-mul_left e (omega arith) in
    omega (arith, least)

pub row_of : (e tile r : ℕ) → tile < e → tile_vector e tile r / e ≡ r
row_of e tile r t = div-mul-add r e tile t

pub tile_of : (e tile r : ℕ) → tile < e → tile_vector e tile r % e ≡ tile
tile_of e tile r t = mod-mul-add r e tile t

pub length-changed : (e tile : ℕ) (change : ℕ → List ℕ → List ℕ) (za : List (List ℕ)) → length (changed_tile e tile change za) ≡ length za
unfolding changed_tile
length-changed e tile change za = length-listed (changed_vector e tile change za) (length za)

-- a row of the tile after the change
pub changed_row : (e tile : ℕ) (change : ℕ → List ℕ → List ℕ) (za : List (List ℕ)) (r : ℕ) → tile < e → r < length za / e
    → get_or (changed_tile e tile change za) (tile_vector e tile r) [] ≡ change r (get_or za (tile_vector e tile r) [])
unfolding changed_tile
changed_row e tile change za r t below =
    listed-at (changed_vector e tile change za) (length za) (tile_vector e tile r) [] (row_below e tile (length za) r t below)
    ∙ cond-true (tile_vector e tile r % e == tile) _ _ (eq-eqb _ _ (tile_of e tile r t))
    ∙ ap (λ k. change k (get_or za (tile_vector e tile r) [])) (row_of e tile r t)

-- a vector of another tile
pub kept_vector : (e tile : ℕ) (change : ℕ → List ℕ → List ℕ) (za : List (List ℕ)) (v : ℕ) → v % e ≢ tile
    → get_or (changed_tile e tile change za) v [] ≡ get_or za v []
unfolding changed_tile
kept_vector e tile change za v other = elim (cases_lt v (length za)) [
  | inl below ↦ listed-at (changed_vector e tile change za) (length za) v [] below
      ∙ cond-false (v % e == tile) _ _ (ne_eqb (v % e) tile other)
  | inr past ↦
      let long = length-changed e tile change za in
      get_or_past (changed_tile e tile change za) v [] (omega (arith, long)) ∙ sym (get_or_past za v [] past)
]

-- an element of a row is one of a vector
pub same_place : (e : ℕ) (row : List ℕ) (c : ℕ) → number_l 256 (take e (drop (c * e) row)) ≡ element_of e row c
unfolding element_of
same_place e row c = ap (λ n. number_l 256 (take e (drop n row))) (mul_comm c e)
