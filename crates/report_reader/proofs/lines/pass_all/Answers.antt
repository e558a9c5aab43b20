use Rattle.std.proofs.Common.{ap, sym, ◌∙◌}
use Rattle.report_reader.specs.Forms.{is_line}
use Rattle.line_reader.specs.Reading.{past_all}
use Rattle.line_reader.specs.Told.{left_of}
use Rattle.line_reader.proofs.Past.{first_is, all-more, all-end}
use Rattle.report_reader.proofs.SomeLines.{some_line}
use Rattle.report_reader.proofs.lines.pass_all.Goals as goal

pub loop-kind-smaller : goal.loop-kind-smaller
loop-kind-smaller c =
    let s = c.loop-kind.lines in
    c.pass.ensures.fewer (some_line c.args.kind s.line.now
    (c.loop-kind-test.ensures ∙ ap (is_line c.args.kind) (c.line.ensures ∙ sym (first_is s.line.now s.rest.now s.whole))))

pub loop-kind-preserved : goal.loop-kind-preserved
loop-kind-preserved c =
    ap (past_all (is_line c.args.kind)) c.pass.ensures.past
    ∙ sym (all-more (is_line c.args.kind) (left_of c.loop-kind.lines)
    (ap (is_line c.args.kind) (sym c.line.ensures) ∙ sym c.loop-kind-test.ensures))
    ∙ c.loop-kind.invariant

pub returns : goal.returns
returns c =
    sym (all-end (is_line c.args.kind) (left_of c.loop-kind.lines)
    (ap (is_line c.args.kind) (sym c.line.ensures) ∙ sym c.loop-kind-test.ensures))
    ∙ c.loop-kind.invariant
