use Rattle.std.proofs.Common.{◌≡◌, ℕ, ◌+◌, ◌<◌, ◌≤◌, ◌++◌, [], List, length, map, drop, get_or, sym, ap, ◌∙◌, arith}
use Rattle.vector_runner.specs.Answer.{numbered_fields, bytes_field}
use Rattle.sve_vectors.specs.Predicates.{predicate_bytes}
use Rattle.std.proofs.lemmas.List.{get_or-map, length-map}
use Rattle.vector_runner.specs.Field.{P}
use Rattle.vector_runner.specs.Told.{field_told}
use Rattle.vector_runner.specs.Field.{Field}
use Rattle.vector_runner.proofs.Numbered.{numbered_more, numbered_end}
use Rattle.vector_runner.proofs.registers.push_p.Goals as goal

abbrev row : ℕ → List ℕ → List Field
row n it = bytes_field (P n) it

pub loop-n-preserved : goal.loop-n-preserved
loop-n-preserved c =
    let ps = c.args.vectors.now.registers.predicates in
    let xs = map predicate_bytes ps in
    let n = c.loop-n.n in
    let before = map field_told c.loop-n.fields.items in
    let count = c.length-length.ensures.registers.predicate_count in
    let inside : n < length xs = omega (arith, count, length-map ps predicate_bytes) in
    let there : n < length ps = omega (arith, count) in
    let bytes : c.p-bytes.result.now ≡ get_or xs n [] =
    sym (get_or-map predicate_bytes ps n [] [] there ∙ ap predicate_bytes (sym c.p-bytes.ensures.value) ∙ c.truths_tell_bytes.ensures) in
    let added = c.in_ok-push_bytes.ensures ∙ ap (λ b. before ++ bytes_field (P n) b) bytes in
    ap (λ l. l ++ numbered_fields row (n + 1) (drop (n + 1) xs)) added
    ∙ numbered_more row xs n [] before _ inside c.loop-n.invariant

pub returns : goal.returns
returns c =
    let ps = c.args.vectors.now.registers.predicates in
    let xs = map predicate_bytes ps in
    let count = c.length-length.ensures.registers.predicate_count in
    let past : length xs ≤ c.loop-n.n = omega (arith, count, length-map ps predicate_bytes) in
    numbered_end row xs c.loop-n.n (map field_told c.loop-n.fields.items) _ past c.loop-n.invariant
