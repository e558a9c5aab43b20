use Rattle.std.proofs.Common.{drop, ◌+◌, sym, ◌∙◌, ap, List, ℕ}
use Rattle.line_reader.specs.Lines.{lines_of, with_first}
use Rattle.line_reader.proofs.Cuts.{line_found, line_alone}
use Rattle.line_reader.proofs.lines.split_line.Goals as goal

pub returns-in-Some-clause-lines : goal.returns-in-Some-clause-lines
returns-in-Some-clause-lines c =
    line_found c.args.text.now c.in-Some.at c.in-Some.ensures
    ∙ ap (λ (ls : List ℕ). with_first ls (lines_of (drop (c.in-Some.at + 1) c.args.text.now))) (sym c.split_at.ensures.front)
    ∙ ap (λ (ls : List ℕ). with_first c.split_at.result.0.now (lines_of ls)) (sym c.split_at.ensures.back)

pub returns-in-None-clause-lines : goal.returns-in-None-clause-lines
returns-in-None-clause-lines c = line_alone c.args.text.now c.in-None.ensures
