use Rattle.report_laws.proofs.FormatReports.{format_read}
use Rattle.report_laws.proofs.reports.reports_in_the_format_are_read.Goals as goal

pub returns : goal.returns
returns c = format_read
