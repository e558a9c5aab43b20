use Rattle.report_reader.proofs.Sound.{report_sound}
use Rattle.report_reader.proofs.laws.reports_are_in_the_format.Goals as goal

pub returns : goal.returns
returns c = report_sound
