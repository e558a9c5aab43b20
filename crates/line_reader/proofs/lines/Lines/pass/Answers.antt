use Rattle.line_reader.proofs.Past.{past_none}
use Rattle.line_reader.proofs.lines.Lines.pass.Goals as goal

pub returns-then-size-eq0-clause-past : goal.returns-then-size-eq0-clause-past
returns-then-size-eq0-clause-past c =
    let s = c.args.self.now in past_none s.number s.place s.line.now s.rest.now c.if-size-eq0.true (s.whole c.if-size-eq0.true)
