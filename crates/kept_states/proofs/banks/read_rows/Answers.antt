use Rattle.std.proofs.Common.{◌≤◌, ◌<◌, ◌++◌, length, ap, ◌∙◌, arith}
use Rattle.sve_vectors.specs.Lengths.{vector_bytes}
use Rattle.kept_states.proofs.Rows.{rows_more, rows_all, array_size}
use Rattle.kept_states.proofs.banks.read_rows.Goals as goal

pub loop-n-preserved : goal.loop-n-preserved
loop-n-preserved c =
    let rows = c.args.za.now.vectors in
    let inside : c.loop-n.n < length rows = omega (arith, c.size-n-end.ensures.square.count, c.size-n-end.ensures.value) in
    c.in_ok-extend_from_slice.ensures.items
    ∙ ap (λ l. c.loop-n.bytes.items ++ l) c.vector.ensures.value
    ∙ rows_more rows c.loop-n.n c.loop-n.bytes.items inside c.loop-n.invariant

pub returns-clause-size : goal.returns-clause-size
returns-clause-size c =
    let rows = c.args.za.now.vectors in
    let past : length rows ≤ c.loop-n.n = omega (arith, c.size-n-end.ensures.square.count, c.size-n-end.ensures.value) in
    ap length (c.loop-n.invariant ∙ rows_all rows c.loop-n.n past)
    ∙ array_size (vector_bytes c.args.za.now.svl) rows c.size-n-end.ensures.square
