use Rattle.std.proofs.Common.{ℕ, ◌+◌, ◌<◌, ◌≤◌, ◌++◌, List, length, map, drop, get_or, ap, ◌∙◌, arith}
use Rattle.vector_runner.specs.Answer.{numbered_fields, number_field}
use Rattle.vector_runner.specs.Field.{Field, X}
use Rattle.vector_runner.specs.Told.{field_told}
use Rattle.vector_runner.proofs.Numbered.{numbered_more, numbered_end}
use Rattle.vector_runner.proofs.registers.push_x.Goals as goal

abbrev row : ℕ → ℕ → List Field
row n it = number_field (X n) it

pub loop-n-preserved : goal.loop-n-preserved
loop-n-preserved c =
    let xs = c.args.values.now in
    let n = c.loop-n.n in
    let inside : n < length xs = omega arith in
    let before = map field_told c.loop-n.fields.items in
    ap (λ l. l ++ numbered_fields row (n + 1) (drop (n + 1) xs))
    (c.in_ok-push_number.ensures ∙ ap (λ k. before ++ row n (get_or xs k 0)) c.from.ensures)
    ∙ numbered_more row xs n 0 before _ inside c.loop-n.invariant

pub returns : goal.returns
returns c =
    let xs = c.args.values.now in
    let past : length xs ≤ c.loop-n.n = omega arith in
    numbered_end row xs c.loop-n.n (map field_told c.loop-n.fields.items) _ past c.loop-n.invariant
