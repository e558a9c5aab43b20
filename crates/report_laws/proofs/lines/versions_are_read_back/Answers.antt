use Rattle.report_laws.proofs.Heads.{version_read}
use Rattle.report_laws.proofs.lines.versions_are_read_back.Goals as goal

pub returns : goal.returns
returns c = version_read
