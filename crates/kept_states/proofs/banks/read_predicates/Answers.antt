use Rattle.std.proofs.Common.{◌≤◌, length, ap, ◌∙◌, arith}
use Rattle.std.specs.List.{flat_map}
use Rattle.std.proofs.lemmas.List.{take_all}
use Rattle.sve_vectors.specs.Predicates.{predicate_bytes}
use Rattle.sve_vectors.specs.State.{length_of}
use Rattle.kept_states.proofs.Rows.{predicates_size}
use Rattle.kept_states.proofs.banks.read_predicates.Goals as goal

pub returns-clause-size : goal.returns-clause-size
returns-clause-size c =
    let rows = c.args.vectors.now.registers.predicates in
    let past : length rows ≤ c.loop-n.n = omega (arith, c.length-length.ensures.registers.predicate_count) in
    ap length (c.loop-n.invariant ∙ ap (flat_map predicate_bytes) (take_all c.loop-n.n rows past))
    ∙ predicates_size (length_of c.args.vectors.now) c.args.vectors.now.registers c.length-length.ensures.registers
