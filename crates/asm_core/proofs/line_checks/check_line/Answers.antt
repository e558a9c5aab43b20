use Rattle.std.proofs.Common.{◌≡◌, Some, None, sym, ap, ◌∙◌}
use Rattle.std.proofs.lemmas.Result.{err_from_is_err_and}
use Rattle.asm_parser.specs.Statements.{line_said, says_of}
use Rattle.asm_core.specs.Layout.{here}
use Rattle.asm_core.specs.Faults.{misaligned}
use Rattle.asm_core.proofs.LineFaults.{misaligned_fault, doubled_fault, large_fault, no_fault}
use Rattle.asm_core.proofs.line_checks.check_line.Goals as goal

pub returns-in-Some-clause-err : goal.returns-in-Some-clause-err
returns-in-Some-clause-err c = λ list knows differs.
    let at : misaligned (says_of c.args.line.now.statement) (here c.args.counter.now) ≡ Some c.in-Some.column =
    ap (misaligned (says_of c.args.line.now.statement)) (sym c.here.ensures) ∙ sym c.in-Some.ensures in
    misaligned_fault c.args.number c.args.counter.now list (line_said c.args.line.now) c.in-Some.column at

pub returns-in_err-add_labels-clause-err : goal.returns-in_err-add_labels-clause-err
returns-in_err-add_labels-clause-err c = λ list knows.
    let at : misaligned (says_of c.args.line.now.statement) (here c.args.counter.now) ≡ None =
    ap (misaligned (says_of c.args.line.now.statement)) (sym c.here.ensures) ∙ sym c.in_default.ensures in
    let p = err_from_is_err_and c.from_residual.result c.from_residual.ensures.1 in
    rw (p.1, p.2)
    (λ differs.
    let d = c.in_err-add_labels.ensures.err differs list knows in
    doubled_fault c.args.number c.args.counter.now list (line_said c.args.line.now) at d.0 ∙ ap Some (sym d.1))

pub returns-in-Some-counter_after-clause-ok : goal.returns-in-Some-counter_after-clause-ok
returns-in-Some-counter_after-clause-ok c = λ list knows.
    let at : misaligned (says_of c.args.line.now.statement) (here c.args.counter.now) ≡ None =
    ap (misaligned (says_of c.args.line.now.statement)) (sym c.here.ensures) ∙ sym c.in_default.ensures in
    no_fault c.args.number c.args.counter.now list (line_said c.args.line.now) at (c.in_ok-add_labels.ensures.ok list knows).0
    c.in-Some-counter_after.ensures.0

pub returns-in-Some-counter_after-clause-knows : goal.returns-in-Some-counter_after-clause-knows
returns-in-Some-counter_after-clause-knows c = λ list knows. (c.in_ok-add_labels.ensures.ok list knows).1

pub returns-in-None-clause-err : goal.returns-in-None-clause-err
returns-in-None-clause-err c = λ list knows differs.
    let at : misaligned (says_of c.args.line.now.statement) (here c.args.counter.now) ≡ None =
    ap (misaligned (says_of c.args.line.now.statement)) (sym c.here.ensures) ∙ sym c.in_default.ensures in
    large_fault c.args.number c.args.counter.now list (line_said c.args.line.now) at (c.in_ok-add_labels.ensures.ok list knows).0
    c.in-None.ensures
