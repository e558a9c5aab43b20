use Rattle.std.proofs.Common.{◌≤◌, ◌<◌, ◌++◌, length, ap, ◌∙◌, arith}
use Rattle.sve_vectors.specs.State.{length_of}
use Rattle.kept_states.proofs.Rows.{rows_more, rows_all, vectors_size}
use Rattle.kept_states.proofs.banks.read_vectors.Goals as goal

pub loop-n-preserved : goal.loop-n-preserved
loop-n-preserved c =
    let rows = c.args.vectors.now.registers.vectors in
    let inside : c.loop-n.n < length rows = omega (arith, c.length-length.ensures.registers.vector_count) in
    c.in_ok-extend_from_slice.ensures.items
    ∙ ap (λ l. c.loop-n.bytes.items ++ l) c.z.ensures.value
    ∙ rows_more rows c.loop-n.n c.loop-n.bytes.items inside c.loop-n.invariant

pub returns-clause-size : goal.returns-clause-size
returns-clause-size c =
    let rows = c.args.vectors.now.registers.vectors in
    let past : length rows ≤ c.loop-n.n = omega (arith, c.length-length.ensures.registers.vector_count) in
    ap length (c.loop-n.invariant ∙ rows_all rows c.loop-n.n past)
    ∙ vectors_size (length_of c.args.vectors.now) c.args.vectors.now.registers c.length-length.ensures.registers
