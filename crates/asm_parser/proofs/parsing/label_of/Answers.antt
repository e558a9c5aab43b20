use Rattle.std.proofs.Common.{sym, refl}
use Rattle.asm_parser.proofs.Labels.{label-some, label-none}
use Rattle.asm_parser.proofs.parsing.label_of.Goals as goal

pub returns-then-is_label-clause-name : goal.returns-then-is_label-clause-name
returns-then-is_label-clause-name c =
    (label-some c.args.text.now c.skip_blanks-start.result _ c.run_at-name.result.now c.skip_blanks-start.ensures.value
    c.run_at-name.ensures.value refl (sym c.if-is_label.ensures.value)).0

pub returns-then-is_label-clause-end : goal.returns-then-is_label-clause-end
returns-then-is_label-clause-end c =
    (label-some c.args.text.now c.skip_blanks-start.result _ c.run_at-name.result.now c.skip_blanks-start.ensures.value
    c.run_at-name.ensures.value refl (sym c.if-is_label.ensures.value)).1

pub returns-else-is_label-clause-name : goal.returns-else-is_label-clause-name
returns-else-is_label-clause-name c =
    (label-none c.args.text.now c.skip_blanks-start.result _ c.run_at-name.result.now c.skip_blanks-start.ensures.value
    c.run_at-name.ensures.value refl (sym c.if-is_label.ensures.value)).0

pub returns-else-is_label-clause-end : goal.returns-else-is_label-clause-end
returns-else-is_label-clause-end c =
    (label-none c.args.text.now c.skip_blanks-start.result _ c.run_at-name.result.now c.skip_blanks-start.ensures.value
    c.run_at-name.ensures.value refl (sym c.if-is_label.ensures.value)).1
