use Rattle.std.proofs.Common.{◌∙◌, sym, ap}
use Rattle.std.specs.Prelude.{is_some}
use Rattle.asm_core.specs.Layout.{label_of}
use Rattle.asm_core.proofs.LineLabels.{added_one, doubled_one}
use Rattle.asm_core.proofs.line_labels.add_label.Goals as goal

pub returns-then-is_some-clause-err : goal.returns-then-is_some-clause-err
returns-then-is_some-clause-err c = λ differs.
    doubled_one c.args.number c.args.labels.now (label_of c.args.name.now c.args.position)
    (ap is_some (sym c.find.ensures) ∙ sym c.is_some.ensures ∙ c.if-is_some.true)

pub returns-clause-ok : goal.returns-clause-ok
returns-clause-ok c =
    added_one c.args.labels.now c.add.new.self (label_of c.args.name.now c.args.position)
    (ap is_some (sym c.find.ensures) ∙ sym c.is_some.ensures ∙ c.if-is_some.false) c.in_ok-add.ensures
