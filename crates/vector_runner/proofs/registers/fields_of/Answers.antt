use Rattle.std.proofs.Common.{◌≡◌, ◌++◌, [], List, map, ap, ◌∙◌}
use Rattle.sve_vectors.specs.Predicates.{predicate_bytes}
use Rattle.vector_runner.specs.Answer.{array_fields, bytes_field, bytes_fields, data_in, fields_of, scalar_fields, x_fields}
use Rattle.vector_runner.specs.Field.{Field, Z, P, Ffr, M}
use Rattle.vector_runner.specs.Told.{field_told}
use Rattle.vector_runner.proofs.Numbered.{behind_both}
use Rattle.vector_runner.proofs.registers.fields_of.Goals as goal

-- behind no field
alone : (none rest all : List Field) → none ≡ [] → all ≡ none ++ rest → all ≡ rest
alone none rest all e h = h ∙ ap (λ l. l ++ rest) e

pub returns : goal.returns
unfolding fields_of
returns c =
    let m = c.args.state.now.machine in
    let v = c.args.state.now.bank.vectors in
    let first : List Field = map field_told c.new-fields.result.items in
    let with_x : List Field = map field_told c.push_x.new.fields.items in
    let with_scalars : List Field = map field_told c.push_scalars.new.fields.items in
    let with_z : List Field = map field_told c.push_z.new.fields.items in
    let with_p : List Field = map field_told c.push_p.new.fields.items in
    let with_ffr : List Field = map field_told c.push_ffr.new.fields.items in
    let with_array : List Field = map field_told c.push_array.new.fields.items in
    let all : List Field = map field_told c.push_data.new.fields.items in
    let x : List Field = x_fields m.scalars.x in
    let scalars : List Field = scalar_fields m.scalars m.tpidr m.tpidr2 m.streaming m.za_on in
    let z : List Field = bytes_fields Z v.registers.vectors in
    let p : List Field = bytes_fields P (map predicate_bytes v.registers.predicates) in
    let ffr : List Field = bytes_field Ffr (predicate_bytes v.registers.ffr) in
    let array : List Field = array_fields m.za_on c.args.state.now.bank.za.vectors in
    let bytes : List Field = bytes_field M (data_in m.pages.memory) in
    alone first (x ++ (scalars ++ (z ++ (p ++ (ffr ++ (array ++ bytes)))))) all (ap (map field_told) c.new-fields.ensures.items)
    (behind_both first with_x x (scalars ++ (z ++ (p ++ (ffr ++ (array ++ bytes))))) all c.in_ok-push_x.ensures
    (behind_both with_x with_scalars scalars (z ++ (p ++ (ffr ++ (array ++ bytes)))) all c.in_ok-push_scalars.ensures
    (behind_both with_scalars with_z z (p ++ (ffr ++ (array ++ bytes))) all c.in_ok-push_z.ensures
    (behind_both with_z with_p p (ffr ++ (array ++ bytes)) all c.in_ok-push_p.ensures
    (behind_both with_p with_ffr ffr (array ++ bytes) all c.in_ok-push_ffr.ensures
    (behind_both with_ffr with_array array bytes all c.in_ok-push_array.ensures c.in_ok-push_data.ensures))))))
