use Rattle.std.proofs.Common.{◌≡◌, ap, ◌∙◌, arith, ◌≤◌, ◌/◌, ℕ, List, length, take, false}
use Rattle.std.proofs.lemmas.List.{length-replicate, take-replicate}
use Rattle.sve_vectors.specs.Lengths.{vector_bytes}
use Rattle.sve_vectors.specs.Layout.{items_of, room_of}
use Rattle.sve_vectors.specs.Registers.{VectorRegisters}
use Rattle.sve_vectors.proofs.Zero.{zero_rows_are, zero_fronts, registers_of_rows-zero, eights}
use Rattle.sve_vectors.proofs.vectors.Vectors.allocate.Goals as goal

pub invariant_of-result : goal.invariant_of-result
invariant_of-result c =
    let room : c.max-room.result ≡ room_of c.args.vl c.args.svl = omega arith in
    record {
      current = c.bytes-3.ensures;
      vectors = rw (← room) (zero_rows_are 32 c.max-room.result (items_of c.in_ok-zero_rows.field-0.items) c.in_ok-zero_rows.ensures);
      predicates = rw (← room) (zero_rows_are 16 (c.max-room.result / 8)
          (items_of c.in_ok-zero_rows-2.field-0.items) c.in_ok-zero_rows-2.ensures);
      first_fault = rw (← room) (ap length c.in_ok-zero_row.ensures ∙ length-replicate (c.max-room.result / 8) 0);
    }

pub returns : goal.returns
returns c =
    let fits : vector_bytes c.args.vl ≤ c.max-room.result = omega arith in
    let bytes = vector_bytes c.args.vl in
    let z = items_of c.in_ok-zero_rows.field-0.items in
    let p = items_of c.in_ok-zero_rows-2.field-0.items in
    let ffr : List ℕ = c.in_ok-zero_row.field-0.items in
    rw c.bytes-3.ensures (ap (λ (r : VectorRegisters). record { vl = c.args.vl; svl = c.args.svl; streaming = false; registers = r })
    (registers_of_rows-zero bytes z p ffr (eights c.args.vl c.args.svl false)
    (zero_fronts 32 bytes c.max-room.result z c.in_ok-zero_rows.ensures fits)
    (zero_fronts 16 (bytes / 8) (c.max-room.result / 8) p c.in_ok-zero_rows-2.ensures (omega arith))
    (ap (take (bytes / 8)) c.in_ok-zero_row.ensures ∙ take-replicate (bytes / 8) (c.max-room.result / 8) 0 (omega arith))))
