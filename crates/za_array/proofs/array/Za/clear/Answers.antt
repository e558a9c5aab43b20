use Rattle.std.proofs.Common.{◌≡◌, ap, ◌∙◌, sym, List, length, Vec, Global, ℕ}
use Rattle.std.proofs.lemmas.List.{with_items_is}
use Rattle.std.specs.Vec.{with_items}
use Rattle.sve_vectors.specs.Lengths.{vector_bytes}
use Rattle.sve_vectors.specs.Layout.{items_of, ClearedRows}
use Rattle.za_array.specs.Array.{ArrayState, zero_array}
use Rattle.za_array.specs.Layout.{state_of_array}
use Rattle.za_array.proofs.Rows.{cleared_square}
use Rattle.za_array.proofs.array.Za.clear.Goals as goal

pub returns : goal.returns
returns c =
    let v = c.self.inside in
    let size = vector_bytes v.svl in
    let rows : List (Vec ℕ Global) = (with_items v.rows c.clear_rows.new.rows).items in
    let same : rows ≡ c.clear_rows.new.rows = with_items_is v.rows c.clear_rows.new.rows
    (c.clear_rows.auto.rows ∙ ap length c.as_mut_slice.ensures.value ∙ sym v.rows.ok.0) in
    let cleared : ClearedRows size (items_of v.rows.items) (items_of c.clear_rows.new.rows) =
    rw (← c.bytes-size.ensures, ← c.as_mut_slice.ensures.value) c.clear_rows.ensures in
    ap (state_of_array v.svl) (ap (λ (t : List (Vec ℕ Global)). items_of t) same
    ∙ cleared_square size (items_of v.rows.items) (items_of c.clear_rows.new.rows) c.self.invariant cleared)
    ∙ ap (λ (s : ArrayState). zero_array s.svl) c.self.view_is
