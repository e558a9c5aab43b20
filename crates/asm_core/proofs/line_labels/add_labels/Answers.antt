use Rattle.std.proofs.Common.{map}
use Rattle.std.specs.Prelude.{option_map}
use Rattle.std.proofs.lemmas.Result.{err_from_is_err_and, on_ok_weaker}
use Rattle.asm_parser.specs.Statements.{line_said}
use Rattle.asm_core.specs.Code.{names_said}
use Rattle.asm_core.specs.Layout.{label_at, label_past, if_some}
use Rattle.asm_core.proofs.LineLabels.{added_more, doubled_first, doubled_later}
use Rattle.asm_core.proofs.RoutineWords.{err_more}
use Rattle.asm_core.proofs.line_labels.add_labels.Goals as goal

pub returns-in_err-add_own-clause-err : goal.returns-in_err-add_own-clause-err
returns-in_err-add_own-clause-err c =
    let line = line_said c.args.line.now in
    let p = c.args.counter.now in
    let e = err_from_is_err_and c.from_residual.result c.from_residual.ensures.1 in
    rw (e.1, e.2)
    (λ differs.
    doubled_first c.args.labels.now c.add_own.new.labels (if_some (option_map (label_at p) line.label)) (map (label_past p) (names_said line.says))
    c.args.number _ (c.in_err-add_own.ensures.err differs))

pub returns-clause-ok : goal.returns-clause-ok
returns-clause-ok c =
    let line = line_said c.args.line.now in
    let p = c.args.counter.now in
    on_ok_weaker c.add_names.result
    (λ g. added_more c.args.labels.now c.add_own.new.labels (if_some (option_map (label_at p) line.label))
    (map (label_past p) (names_said line.says)) c.add_names.new.labels c.in_ok-add_own.ensures.ok g)
    c.add_names.ensures.ok

pub returns-clause-err : goal.returns-clause-err
returns-clause-err c =
    let line = line_said c.args.line.now in
    let p = c.args.counter.now in
    err_more c.add_names.result _ _
    (λ fault h differs. doubled_later c.args.labels.now c.add_own.new.labels (if_some (option_map (label_at p) line.label))
    (map (label_past p) (names_said line.says)) c.args.number fault c.in_ok-add_own.ensures.ok (h differs))
    c.add_names.ensures.err
