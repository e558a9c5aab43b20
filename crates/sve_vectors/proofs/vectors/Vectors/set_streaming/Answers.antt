use Rattle.std.proofs.Common.{◌≡◌, ap, ◌∙◌, sym, ◌/◌, ℕ, List, length, Vec, Global}
use Rattle.std.proofs.lemmas.List.{with_items_is}
use Rattle.std.proofs.lemmas.Bool.{cond-false}
use Rattle.std.specs.Bool.{beq}
use Rattle.std.specs.Vec.{with_items}
use Rattle.sve_vectors.specs.Lengths.{current_bytes}
use Rattle.sve_vectors.specs.Layout.{items_of, registers_of_rows}
use Rattle.sve_vectors.specs.Registers.{VectorRegisters, zero_registers}
use Rattle.sve_vectors.specs.State.{SveState, zero_state}
use Rattle.sve_vectors.proofs.Zero.{cleared_fronts, registers_of_rows-zero, eights}
use Rattle.sve_vectors.proofs.vectors.Vectors.set_streaming.Goals as goal
use Rattle.sve_vectors.proofs.vectors.Vectors.set_streaming.Goals.{then-on, else-on}

pub returns : goal.returns
returns c =
    let v = c.self.inside in
    let h = c.self.invariant in
    let bytes = c.if-on.bytes in
    let is : bytes ≡ current_bytes v.vl v.svl c.args.on = elim c.if-on.branch [
      | then-on w ↦ rw w.if-on.true (w.bytes-is ∙ w.bytes-bytes.ensures)
      | else-on w ↦ rw w.if-on.false (w.bytes-is ∙ w.bytes-bytes-else-on.ensures)
    ] in
    let rows : List (Vec ℕ Global) = (with_items v.z c.clear_rows.new.rows).items in
    let masks : List (Vec ℕ Global) = (with_items v.p c.clear_rows-2.new.rows).items in
    let row : List ℕ = (with_items v.ffr c.clear.new.row).items in
    let z : rows ≡ c.clear_rows.new.rows = with_items_is v.z c.clear_rows.new.rows
    (c.clear_rows.auto.rows ∙ ap length c.as_mut_slice.ensures.value ∙ sym v.z.ok.0) in
    let p : masks ≡ c.clear_rows-2.new.rows = with_items_is v.p c.clear_rows-2.new.rows
    (c.clear_rows-2.auto.rows ∙ ap length c.as_mut_slice-2.ensures.value ∙ sym v.p.ok.0) in
    let ffr : row ≡ c.clear.new.row = with_items_is v.ffr c.clear.new.row
    (c.clear.auto.row ∙ ap length c.as_mut_slice-3.ensures.value ∙ sym v.ffr.ok.0) in
    let long = λ (t : List (Vec ℕ Global)). length (items_of t) in
    let vectors = cleared_fronts 32 bytes (items_of c.as_mut_slice.result.now) (items_of c.clear_rows.new.rows)
    (ap long c.as_mut_slice.ensures.value ∙ h.vectors.count) c.clear_rows.ensures in
    let predicates = cleared_fronts 16 (bytes / 8) (items_of c.as_mut_slice-2.result.now) (items_of c.clear_rows-2.new.rows)
    (ap long c.as_mut_slice-2.ensures.value ∙ h.predicates.count) c.clear_rows-2.ensures in
    let zeros : registers_of_rows bytes (items_of rows) (items_of masks) row ≡ zero_registers bytes = rw (z, p, ffr)
    (registers_of_rows-zero bytes (items_of c.clear_rows.new.rows) (items_of c.clear_rows-2.new.rows) c.clear.new.row
    (rw is (eights v.vl v.svl c.args.on)) vectors predicates c.clear.ensures) in
    let with_registers : VectorRegisters → SveState = λ r. record { vl = v.vl; svl = v.svl; streaming = c.args.on; registers = r } in
    let changed : with_registers (registers_of_rows bytes (items_of rows) (items_of masks) row) ≡ zero_state v.vl v.svl c.args.on
    = ap with_registers (zeros ∙ ap zero_registers is) in
    rw (← c.self.view_is) (changed ∙ sym (cond-false (beq v.streaming c.args.on) _ _ c.if-self-on.false))
