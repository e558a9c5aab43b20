use Rattle.std.proofs.Common.{sym, ◌∙◌, ap, None}
use Rattle.asm_operands.specs.Fields.{is_halfword_at}
use Rattle.sm_types.proofs.Places.{find-first, none-find, find-more, or_next}
use Rattle.asm_operands.proofs.fields.halfword_index.Goals as goal

pub returns-then-is_halfword_at-clause-value : goal.returns-then-is_halfword_at-clause-value
returns-then-is_halfword_at-clause-value c =
    sym (find-first (is_halfword_at c.args.number) c.args.count c.loop-index.index c.loop-index-test.true (sym c.if-is_halfword_at.ensures)
    (λ q lt. none-find (is_halfword_at c.args.number) c.loop-index.index q c.loop-index.invariant lt))

pub loop-index-preserved : goal.loop-index-preserved
loop-index-preserved c =
    find-more (is_halfword_at c.args.number) c.loop-index.index
    ∙ ap (λ o. or_next o (is_halfword_at c.args.number c.loop-index.index) c.loop-index.index) c.loop-index.invariant
    ∙ ap (λ b. or_next None b c.loop-index.index) (sym c.if-is_halfword_at.ensures)
