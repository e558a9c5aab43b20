use Rattle.std.proofs.Common.{◌≡◌, ◌++◌, length, List, map, sym, ap, ◌∙◌, arith}
use Rattle.std.proofs.lemmas.Bool.Decides.{nat_tests}
use Rattle.std.proofs.lemmas.List.{append-nil}
use Rattle.line_reader.specs.File.{NumberedLine, file_lines, some_lines}
use Rattle.plan_reader.specs.Plan.{event_lines}
use Rattle.line_reader.proofs.FileLines.{some-end}
use Rattle.plan_reader.proofs.plan.event_lines.Goals as goal

pub returns-then-is_empty : goal.returns-then-is_empty
unfolding event_lines file_lines
returns-then-is_empty c =
    let line = c.split_line.result.0.now in
    let rest = c.split_line.result.1.now in
    let none : length line ≡ 0 = grind (arith, nat_tests) in
    let numbers_of = λ (ls : List NumberedLine). map (λ (it : NumberedLine). it.number) ls in
    sym (append-nil c.lines.numbers.items)
    ∙ ap (λ ls. c.lines.numbers.items ++ numbers_of ls) (sym (some-end c.lines.number line rest none (c.split_line.ensures.whole none)))
    ∙ ap (λ ls. c.lines.numbers.items ++ numbers_of (some_lines c.lines.number ls)) (sym c.split_line.ensures.lines)
    ∙ c.lines.invariant.so_far
