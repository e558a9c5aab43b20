use Rattle.std.proofs.Common.{arith}
use Rattle.std.proofs.lemmas.Bool.{both_ways}
use Rattle.insn_forms.proofs.Deciding.{no_place, no_line, no_match, match}
use Rattle.sve_table.specs.Table.{vector}
use Rattle.sve_decode.proofs.decode.by_tree.Goals as goal

pub returns-in_default : goal.returns-in_default
unfolding vector
returns-in_default c it = no_place vector c.args.word c.in_default.ensures it

pub returns-in_default-line_at : goal.returns-in_default-line_at
unfolding vector
returns-in_default-line_at c it = no_line vector c.args.word c.in-Some.number c.in-Some.ensures c.in_default-line_at.ensures it

pub returns-then-matches : goal.returns-then-matches
unfolding vector
returns-then-matches c it =
    match vector c.args.word c.in-Some.number c.in-Some.ensures (omega arith) c.in-Some-line_at.line.now c.in-Some-line_at.ensures
    (c.matches.ensures.0 c.if-matches.true) c.insn_given.result c.insn_given.ensures it

pub returns-else-matches : goal.returns-else-matches
unfolding vector
returns-else-matches c it =
    no_match vector c.args.word c.in-Some.number c.in-Some.ensures c.in-Some-line_at.line.now c.in-Some-line_at.ensures
    (λ m. both_ways _ c.if-matches.false (c.matches.ensures.1 m)) it
