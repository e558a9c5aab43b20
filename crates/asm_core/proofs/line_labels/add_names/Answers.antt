use Rattle.std.proofs.Common.{[], ◌∷◌, ◌++◌}
use Rattle.std.proofs.lemmas.Result.{err_from_is_err_and, on_ok_weaker}
use Rattle.asm_core.specs.declared.routines.Routine.TheVariants.{Save, Disable, Restore}
use Rattle.asm_core.specs.Code.{named_byte}
use Rattle.asm_core.specs.Layout.{label_past}
use Rattle.asm_core.proofs.LineLabels.{added_more, added_no_names, doubled_first, doubled_later}
use Rattle.asm_core.proofs.RoutineWords.{err_more}
use Rattle.asm_core.proofs.line_labels.add_names.Goals as goal

pub returns-in_err-add_routine-in-SupportRoutines-clause-err : goal.returns-in_err-add_routine-in-SupportRoutines-clause-err
returns-in_err-add_routine-in-SupportRoutines-clause-err c =
    let p = c.args.counter.now in
    let e = err_from_is_err_and c.from_residual.result c.from_residual.ensures.1 in
    rw (e.1, e.2, c.in-SupportRoutines.is)
    (λ differs.
    doubled_first c.args.labels.now c.add_routine.new.labels (label_past p (named_byte Save) ∷ [])
    ((label_past p (named_byte Disable) ∷ []) ++ (label_past p (named_byte Restore) ∷ [])) c.args.number _
    (c.in_err-add_routine-in-SupportRoutines.ensures.err differs))

pub returns-in_err-add_routine-in-SupportRoutines-2-clause-err : goal.returns-in_err-add_routine-in-SupportRoutines-2-clause-err
returns-in_err-add_routine-in-SupportRoutines-2-clause-err c =
    let p = c.args.counter.now in
    let n = c.args.number in
    let first = c.add_routine.new.labels in
    let r = c.from_residual-in_err-add_routine-in-SupportRoutines-2 in
    let e = err_from_is_err_and r.result r.ensures.1 in
    rw (e.1, e.2, c.in-SupportRoutines.is)
    (λ differs.
    doubled_later c.args.labels.now first (label_past p (named_byte Save) ∷ []) ((label_past p (named_byte Disable) ∷ []) ++ (label_past p (named_byte Restore) ∷ [])) n _ c.in_ok-add_routine-in-SupportRoutines.ensures.ok
    (doubled_first first c.add_routine-in-SupportRoutines.new.labels (label_past p (named_byte Disable) ∷ []) (label_past p (named_byte Restore) ∷ []) n _
    (c.in_err-add_routine-in-SupportRoutines-2.ensures.err differs)))

pub returns-in_ok-add_routine-in-SupportRoutines-2-clause-ok : goal.returns-in_ok-add_routine-in-SupportRoutines-2-clause-ok
returns-in_ok-add_routine-in-SupportRoutines-2-clause-ok c =
    let p = c.args.counter.now in
    let first = c.add_routine.new.labels in
    let second = c.add_routine-in-SupportRoutines.new.labels in
    let third = c.add_routine-in-SupportRoutines-2.new.labels in
    rw c.in-SupportRoutines.is
    (on_ok_weaker c.add_routine-in-SupportRoutines-2.result
    (λ g. added_more c.args.labels.now first (label_past p (named_byte Save) ∷ []) ((label_past p (named_byte Disable) ∷ []) ++ (label_past p (named_byte Restore) ∷ [])) third c.in_ok-add_routine-in-SupportRoutines.ensures.ok
    (added_more first second (label_past p (named_byte Disable) ∷ []) (label_past p (named_byte Restore) ∷ []) third c.in_ok-add_routine-in-SupportRoutines-2.ensures.ok g))
    c.add_routine-in-SupportRoutines-2.ensures.ok)

pub returns-in_ok-add_routine-in-SupportRoutines-2-clause-err : goal.returns-in_ok-add_routine-in-SupportRoutines-2-clause-err
returns-in_ok-add_routine-in-SupportRoutines-2-clause-err c =
    let p = c.args.counter.now in
    let n = c.args.number in
    let first = c.add_routine.new.labels in
    let second = c.add_routine-in-SupportRoutines.new.labels in
    rw c.in-SupportRoutines.is
    (err_more c.add_routine-in-SupportRoutines-2.result _ _
    (λ fault h differs. doubled_later c.args.labels.now first (label_past p (named_byte Save) ∷ []) ((label_past p (named_byte Disable) ∷ []) ++ (label_past p (named_byte Restore) ∷ [])) n fault
    c.in_ok-add_routine-in-SupportRoutines.ensures.ok
    (doubled_later first second (label_past p (named_byte Disable) ∷ []) (label_past p (named_byte Restore) ∷ []) n fault c.in_ok-add_routine-in-SupportRoutines-2.ensures.ok (h differs)))
    c.add_routine-in-SupportRoutines-2.ensures.err)

pub returns-in_default : goal.returns-in_default
returns-in_default c = record {
  ok = added_no_names c.args.labels.now c.args.counter.now c.args.statement.now c.in_default.not-SupportRoutines;
  err = tt;
}
