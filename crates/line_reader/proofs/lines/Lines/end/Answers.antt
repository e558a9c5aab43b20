use Rattle.std.proofs.Common.{◌≡◌, length, arith}
use Rattle.std.proofs.lemmas.Bool.Decides.{nat_tests}
use Rattle.line_reader.proofs.Past.{ends}
use Rattle.line_reader.proofs.lines.Lines.end.Goals as goal

pub returns-then-is_empty : goal.returns-then-is_empty
returns-then-is_empty g c =
    let s = c.args.self.now in
    let none : length s.line.now ≡ 0 = grind (arith, nat_tests) in
    ends c.args.no_text c.args.kind s.number s.place s.line.now s.rest.now none (s.whole none)
