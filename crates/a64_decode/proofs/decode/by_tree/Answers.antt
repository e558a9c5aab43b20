use Rattle.std.proofs.Common.{arith}
use Rattle.std.proofs.lemmas.Bool.{both_ways}
use Rattle.insn_forms.proofs.Deciding.{no_place, no_line, no_match, match}
use Rattle.a64_table.specs.Table.{scalar}
use Rattle.a64_decode.proofs.decode.by_tree.Goals as goal

pub returns-then-is_of_vectors : goal.returns-then-is_of_vectors
unfolding scalar
returns-then-is_of_vectors c it =
    no_place scalar c.args.word (λ i line g m. absurd (c.is_of_vectors.ensures c.if-is_of_vectors.true i line g m)) it

pub returns-in_default : goal.returns-in_default
unfolding scalar
returns-in_default c it = no_place scalar c.args.word c.in_default.ensures it

pub returns-in_default-line_at : goal.returns-in_default-line_at
unfolding scalar
returns-in_default-line_at c it = no_line scalar c.args.word c.in-Some.number c.in-Some.ensures c.in_default-line_at.ensures it

pub returns-then-matches : goal.returns-then-matches
unfolding scalar
returns-then-matches c it =
    match scalar c.args.word c.in-Some.number c.in-Some.ensures (omega arith) c.in-Some-line_at.line.now c.in-Some-line_at.ensures
    (c.matches.ensures.0 c.if-matches.true) c.insn_given.result c.insn_given.ensures it

pub returns-else-matches : goal.returns-else-matches
unfolding scalar
returns-else-matches c it =
    no_match scalar c.args.word c.in-Some.number c.in-Some.ensures c.in-Some-line_at.line.now c.in-Some-line_at.ensures
    (λ m. both_ways _ c.if-matches.false (c.matches.ensures.1 m)) it
