use Rattle.std.proofs.Common.{◌≡◌, ◌+◌, drop, get_or, rules, sym, ap, ◌∙◌, subst}
use Rattle.line_reader.specs.Reading.{Left, and_then}
use Rattle.line_reader.specs.Told.{left_of}
use Rattle.report_reader.specs.Reading.{IsFault}
use Rattle.report_reader.specs.Block.{together, lines_of_kinds}
use Rattle.text_lines.specs.Forms.{often_of}
use Rattle.text_lines.specs.declared.forms.LineKind.TheVariants.{Turns}
use Rattle.report_reader.proofs.Readings.{fault_first}
use Rattle.report_reader.proofs.Rows.{kinds-more, kinds-end}
use Rattle.report_reader.proofs.block.pass_kinds.Goals as goal

pub returns-in_err-pass_kind : goal.returns-in_err-pass_kind
returns-in_err-pass_kind c =
    let kinds = c.args.kinds.now in
    let k = c.loop-kind.kind-index in
    let left = left_of c.loop-kind.lines in
    let kind = get_or kinds k Turns in
    let it = c.in_err-pass_kind.field-0.0 in
    let bad : IsFault (lines_of_kinds kinds (left_of c.args.lines.now)) it =
    subst (λ r. IsFault r it) (sym (kinds-more kinds k Turns left c.loop-kind-test.true) ∙ c.loop-kind.invariant)
    (fault_first (together (often_of kind) kind left) (λ u. lines_of_kinds (drop (k + 1) kinds)) it c.in_err-pass_kind.ensures) in
    search rules

pub loop-kind-preserved : goal.loop-kind-preserved
loop-kind-preserved c =
    let kinds = c.args.kinds.now in
    let k = c.loop-kind.kind-index in
    let left = left_of c.loop-kind.lines in
    sym (kinds-more kinds k Turns left c.loop-kind-test.true
    ∙ ap (λ r. and_then r (λ u. lines_of_kinds (drop (k + 1) kinds))) c.in_ok-pass_kind.ensures)
    ∙ c.loop-kind.invariant

pub returns : goal.returns
returns c =
    sym c.loop-kind.invariant ∙ kinds-end c.args.kinds.now c.loop-kind.kind-index (left_of c.loop-kind.lines) c.loop-kind-test.false
