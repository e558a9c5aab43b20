-- The rows of a tile, changed one after another.
use Rattle.std.proofs.Common.{◌≡◌, ◌≢◌, ℕ, ◌+◌, ◌*◌, ◌<◌, ◌≤◌, ◌/◌, ◌%◌, ◌==◌, nat_lt, Bool, true, false, if◌then◌else◌}
use Rattle.std.proofs.Common.{List, [], length, set, get_or, refl, ap, ◌∙◌, sym, inl, inr, arith, length-set, lt-ltb, le-ltb}
use Rattle.std.proofs.Common.{eq-eqb}
use Rattle.std.proofs.lemmas.Bool.{cases_eq, cases_lt, cond-true, cond-false}
use Rattle.std.proofs.lemmas.Bool.Decides.{eqb_tells}
use Rattle.std.proofs.lemmas.List.{same_lists, get_or_default, get_or-set_same, get_or-set_other}
use Rattle.std.proofs.lemmas.Nat.{div-mul-add, mod-mul-add, div-add-mod', div_below}
use Rattle.vector_elements.specs.Elements.{listed}
use Rattle.vector_elements.proofs.Lists.{length-listed, listed-at}
use Rattle.za_array.specs.Tiles.{changed_vector, changed_tile}

-- one more row is counted, unless it is another's
more_rows : {A : Type 0} → (q k : ℕ) (x y : A) → q ≢ k → (if nat_lt q k then x else y) ≡ (if nat_lt q (k + 1) then x else y)
more_rows q k x y n = elim (cases_lt q k) [
  | inl l ↦ cond-true _ x y (lt-ltb q k l) ∙ sym (cond-true _ x y (lt-ltb q (k + 1) (omega arith)))
  | inr g ↦ cond-false _ x y (le-ltb q k g) ∙ sym (cond-false _ x y (le-ltb q (k + 1) (omega arith)))
]

module _ (e tile : ℕ) (change : ℕ → List ℕ → List ℕ) (za : List (List ℕ)) where
  -- vector v of the array where the first rows of the tile are changed
  abbrev begun_vector : ℕ → ℕ → List ℕ
  begun_vector rows v =
      if v % e == tile then (if nat_lt (v / e) rows then change (v / e) (get_or za v []) else get_or za v []) else get_or za v []

  pub begun_tile : ℕ → List (List ℕ)
  begun_tile rows = listed (begun_vector rows) (length za)

  pub length-begun : (rows : ℕ) → length (begun_tile rows) ≡ length za
  unfolding begun_tile
  length-begun rows = length-listed (begun_vector rows) (length za)

  begun-at : (rows v : ℕ) (d : List ℕ) → v < length za → get_or (begun_tile rows) v d ≡ begun_vector rows v
  unfolding begun_tile
  begun-at rows v d lt = listed-at (begun_vector rows) (length za) v d lt

  same_choice : {A : Type 0} → (b : Bool) (x y z : A) → x ≡ y → (if b then x else z) ≡ (if b then y else z)
  same_choice true x y z is = is
  same_choice false x y z is = refl

  both_same : {A : Type 0} → (b : Bool) (x z : A) → x ≡ z → (if b then x else z) ≡ z
  both_same true x z is = is
  both_same false x z is = refl

  pub none_begun : begun_tile 0 ≡ za
  none_begun = same_lists _ _ (length-begun 0) each
    where
      each : (v : ℕ) (d : List ℕ) → v < length (begun_tile 0) → get_or (begun_tile 0) v d ≡ get_or za v d
      each v d lt =
          let below : v < length za = omega (arith, lt, length-begun 0) in
          begun-at 0 v d below
          ∙ both_same (v % e == tile) _ _ (cond-false _ _ _ (le-ltb (v / e) 0 (omega arith)))
          ∙ get_or_default za v [] d below

  -- the row that comes next is as it was
  pub unchanged_row : (r : ℕ) → tile < e → r * e + tile < length za
      → get_or (begun_tile r) (r * e + tile) [] ≡ get_or za (r * e + tile) []
  unchanged_row r t lt =
      begun-at r (r * e + tile) [] lt
      ∙ both_same _ _ _ (cond-false _ _ _ (le-ltb ((r * e + tile) / e) r (omega (arith, div-mul-add r e tile t))))

  pub row_begun : (r : ℕ) (row : List ℕ) → tile < e → r * e + tile < length za
      → row ≡ change r (get_or za (r * e + tile) []) → set (begun_tile r) (r * e + tile) row ≡ begun_tile (r + 1)
  row_begun r row t lt is = same_lists _ _ long each
    where
      long : length (set (begun_tile r) (r * e + tile) row) ≡ length (begun_tile (r + 1))
      long = length-set (begun_tile r) (r * e + tile) row ∙ length-begun r ∙ sym (length-begun (r + 1))

      here : (v : ℕ) (d : List ℕ) → v ≡ r * e + tile → get_or (set (begun_tile r) v row) v d ≡ begun_vector (r + 1) v
      here v d same =
          let quotient : v / e ≡ r = ap (λ k. k / e) same ∙ div-mul-add r e tile t in
          get_or-set_same (begun_tile r) v row d (omega (arith, same, lt, length-begun r))
          ∙ is ∙ ap (λ k. change r (get_or za k [])) (sym same) ∙ ap (λ q. change q (get_or za v [])) (sym quotient)
          ∙ sym (cond-true _ _ _ (lt-ltb (v / e) (r + 1) (omega (arith, quotient))))
          ∙ sym (cond-true (v % e == tile) _ _ (eq-eqb (v % e) tile (ap (λ k. k % e) same ∙ mod-mul-add r e tile t)))

      other : (v : ℕ) → v ≢ r * e + tile → begun_vector r v ≡ begun_vector (r + 1) v
      other v n = elim (eqb_tells (v % e) tile) [
        | inl h ↦ same_choice (v % e == tile) _ _ _ (more_rows (v / e) r _ _ (λ q. n
            (sym (div-add-mod' v e) ∙ ap (λ k. k * e + v % e) q ∙ ap (λ k. r * e + k) h.1)))
        | inr h ↦ cond-false _ _ _ h.0 ∙ sym (cond-false _ _ _ h.0)
      ]

      each : (v : ℕ) (d : List ℕ) → v < length (set (begun_tile r) (r * e + tile) row)
          → get_or (set (begun_tile r) (r * e + tile) row) v d ≡ get_or (begun_tile (r + 1)) v d
      each v d lt2 =
          let below : v < length za = omega (arith, lt2, length-set (begun_tile r) (r * e + tile) row, length-begun r) in
          elim (cases_eq v (r * e + tile)) [
            | inl same ↦ ap (λ k. get_or (set (begun_tile r) k row) v d) (sym same) ∙ here v d same
            | inr n ↦ get_or-set_other (begun_tile r) (r * e + tile) v row d n ∙ begun-at r v d below ∙ other v n
          ] ∙ sym (begun-at (r + 1) v d below)

  pub all_begun : (rows : ℕ) → 0 < e → length za ≤ rows * e → begun_tile rows ≡ changed_tile e tile change za
  unfolding changed_tile
  all_begun rows some le = same_lists _ _ (length-begun rows ∙ sym (length-listed (changed_vector e tile change za) (length za))) each
    where
      each : (v : ℕ) (d : List ℕ) → v < length (begun_tile rows)
          → get_or (begun_tile rows) v d ≡ get_or (listed (changed_vector e tile change za) (length za)) v d
      each v d lt =
          let below : v < length za = omega (arith, lt, length-begun rows) in
          let row : v / e < rows = div_below v e rows some (omega (arith, below, le)) in
          begun-at rows v d below
          ∙ same_choice (v % e == tile) _ _ _ (cond-true _ _ _ (lt-ltb (v / e) rows row))
          ∙ sym (listed-at (changed_vector e tile change za) (length za) v d below)
