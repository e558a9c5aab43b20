use Rattle.std.proofs.Common.{set, ◌≡◌, ◌<◌, ◌≤◌, ◌+◌, ◌*◌, ◌/◌, ℕ, List, [], length, get_or, ap, ◌∙◌, sym, arith}
use Rattle.std.proofs.lemmas.Nat.{div-add-mod', mul-le}
use Rattle.sve_vectors.specs.Lengths.{vector_bytes}
use Rattle.za_array.specs.Array.{ArrayState}
use Rattle.za_array.proofs.Places.{begun_tile, none_begun, unchanged_row, row_begun, all_begun}
use Rattle.za_array.proofs.Whole.{array_whole}
use Rattle.za_array.proofs.tiles.change_tile.Goals as goal

-- a row of the tile is one of the array's vectors
within_array : (size e tile r : ℕ) → tile < e → r < size / e → r * e + tile < size
within_array size e tile r t lt =
    let whole = div-add-mod' size e in
    let before : (r + 1) * e ≤ size / e * e = mul-le (r + 1) e (size / e) e (omega (arith, lt)) (omega arith) in
    omega (arith, whole, before, t)

pub loop-r-init : goal.loop-r-init
loop-r-init g c =
    let gives = g.C.RowChange.gives c.args.change.now in
    let za = c.args.za.now in
    ap (λ (vs : List (List ℕ)). record za { vectors = vs }) (sym (none_begun c.args.bytes c.args.tile gives za.vectors))

pub loop-r-preserved : goal.loop-r-preserved
loop-r-preserved g c =
    let gives = g.C.RowChange.gives c.args.change.now in
    let za = c.args.za.now in
    let e = c.args.bytes in
    let r = c.loop-r.r in
    let n = r * e + c.args.tile in
    let row : List ℕ = c.change.new.row in
    let begun = begun_tile e c.args.tile gives za.vectors r in
    let is : c.loop-r.za ≡ record za { vectors = begun } = c.loop-r.invariant in
    let vectors : c.loop-r.za.vectors ≡ begun = ap (λ (s : ArrayState). s.vectors) is in
    let ends = ap (λ k. k / e) c.size.ensures.value in
    let in_tile : r < vector_bytes za.svl / e = omega (arith, c.loop-r-test.true, ends) in
    let inside : n < length za.vectors = omega (
      arith,
      within_array (vector_bytes za.svl) e c.args.tile r c.requires.tile in_tile,
      c.size.ensures.square.count,
    ) in
    let old : c.vector_mut.result.now ≡ get_or za.vectors n [] = c.vector_mut.ensures.value
    ∙ ap (λ (vs : List (List ℕ)). get_or vs n []) vectors ∙ unchanged_row e c.args.tile gives za.vectors r c.requires.tile inside in
    let long : length row ≡ length (get_or c.loop-r.za.vectors n []) = c.change.auto.row ∙ ap length c.vector_mut.ensures.value in
    array_whole c.loop-r.za n row long
    ∙ ap (λ (s : ArrayState). record s { vectors = set s.vectors n row }) is
    ∙ ap (λ (vs : List (List ℕ)). record za { vectors = vs })
    (row_begun e c.args.tile gives za.vectors r row c.requires.tile inside (c.change.ensures ∙ ap (gives r) old))

pub returns : goal.returns
returns g c =
    let gives = g.C.RowChange.gives c.args.change.now in
    let za = c.args.za.now in
    let e = c.args.bytes in
    let whole = div-add-mod' (vector_bytes za.svl) e in
    let ends = ap (λ k. k / e) c.size.ensures.value in
    let rows : c.loop-r.r ≡ vector_bytes za.svl / e = omega (arith, c.loop-r-test.false, c.loop-r.auto, ends) in
    let every : c.loop-r.r * e ≡ vector_bytes za.svl / e * e = ap (λ k. k * e) rows in
    let all : length za.vectors ≤ c.loop-r.r * e = omega (arith, whole, every, c.requires.whole, c.size.ensures.square.count) in
    c.loop-r.invariant ∙ ap (λ (vs : List (List ℕ)). record za { vectors = vs })
    (all_begun e c.args.tile gives za.vectors c.loop-r.r (omega (arith, c.requires.tile)) all)
