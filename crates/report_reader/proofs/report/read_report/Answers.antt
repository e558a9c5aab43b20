use Rattle.std.proofs.Common.{rules}
use Rattle.report_reader.specs.Told.{Answers}
use Rattle.report_reader.specs.Report.{report_in}
use Rattle.report_reader.proofs.Sound.{report_stands}
use Rattle.report_reader.proofs.report.read_report.Goals as goal

pub returns-clause-places : goal.returns-clause-places
unfolding report_in
returns-clause-places c =
    let said : Answers (report_in c.args.bytes.now) c.read_lines.result = search rules in
    report_stands c.args.bytes.now c.read_lines.result said
