use Rattle.line_reader.proofs.Past.{first_is}
use Rattle.line_reader.proofs.lines.Lines.line.Goals as goal

pub returns : goal.returns
returns c = first_is c.args.self.now.line.now c.args.self.now.rest.now c.args.self.now.whole
