use Rattle.std.proofs.Common.{ℕ, ◌+◌, ◌<◌, ◌≤◌, ◌++◌, [], List, length, map, drop, ap, ◌∙◌, arith}
use Rattle.vector_runner.specs.Answer.{numbered_fields, bytes_field}
use Rattle.vector_runner.specs.Field.{Z}
use Rattle.vector_runner.specs.Told.{field_told}
use Rattle.vector_runner.specs.Field.{Field}
use Rattle.vector_runner.proofs.Numbered.{numbered_more, numbered_end}
use Rattle.vector_runner.proofs.registers.push_z.Goals as goal

abbrev row : ℕ → List ℕ → List Field
row n it = bytes_field (Z n) it

pub loop-n-preserved : goal.loop-n-preserved
loop-n-preserved c =
    let xs = c.args.vectors.now.registers.vectors in
    let n = c.loop-n.n in
    let before = map field_told c.loop-n.fields.items in
    let inside : n < length xs = omega (arith, c.length-length.ensures.registers.vector_count) in
    let added = c.in_ok-push_bytes.ensures ∙ ap (λ b. before ++ bytes_field (Z n) b) c.z.ensures.value in
    ap (λ l. l ++ numbered_fields row (n + 1) (drop (n + 1) xs)) added
    ∙ numbered_more row xs n [] before _ inside c.loop-n.invariant

pub returns : goal.returns
returns c =
    let xs = c.args.vectors.now.registers.vectors in
    let past : length xs ≤ c.loop-n.n = omega (arith, c.length-length.ensures.registers.vector_count) in
    numbered_end row xs c.loop-n.n (map field_told c.loop-n.fields.items) _ past c.loop-n.invariant
