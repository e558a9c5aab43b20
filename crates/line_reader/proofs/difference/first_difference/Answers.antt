use Rattle.std.proofs.Common.{rules, ◌≡◌, ◌≢◌, ◌+◌, ◌≤◌, length, sym, arith}
use Rattle.line_reader.proofs.Differences.{differs_here, ends_here, compared_on, same_texts}
use Rattle.line_reader.proofs.difference.first_difference.Goals as goal

pub returns-then-ne-clause-line : goal.returns-then-ne-clause-line
returns-then-ne-clause-line c =
    let other : c.split_line.result.0.now ≢ c.split_line-in-loop-more.result.0.now = search rules in
    sym (differs_here c.args.first.now c.args.second.now c.loop-more.line c.loop-more.left.now c.loop-more.right.now
    c.split_line.result.0.now c.split_line-in-loop-more.result.0.now c.split_line.result.1.now c.split_line-in-loop-more.result.1.now
    c.loop-more.invariant c.split_line.ensures.lines c.split_line-in-loop-more.ensures.lines other c.split_line.ensures.whole
    c.split_line-in-loop-more.ensures.whole)

pub returns-then-is_empty-clause-line : goal.returns-then-is_empty-clause-line
returns-then-is_empty-clause-line c =
    let same : c.split_line.result.0.now ≡ c.split_line-in-loop-more.result.0.now = search rules in
    let none : length c.split_line.result.0.now ≡ 0 = search rules in
    sym (ends_here c.args.first.now c.args.second.now c.loop-more.line c.loop-more.left.now c.loop-more.right.now
    c.split_line.result.0.now c.split_line-in-loop-more.result.0.now c.split_line.result.1.now c.split_line-in-loop-more.result.1.now
    c.loop-more.invariant c.split_line.ensures.lines c.split_line-in-loop-more.ensures.lines same none c.split_line.ensures.whole
    c.split_line-in-loop-more.ensures.whole)

pub returns-then-is_empty-clause-same : goal.returns-then-is_empty-clause-same
returns-then-is_empty-clause-same c = λ is.
    same_texts c.args.first.now c.args.second.now (sym (returns-then-is_empty-clause-line c))

pub loop-more-preserved : goal.loop-more-preserved
loop-more-preserved c =
    let same : c.split_line.result.0.now ≡ c.split_line-in-loop-more.result.0.now = search rules in
    let some : length c.split_line.result.0.now ≢ 0 = search rules in
    let fits : c.loop-more.line + 1 + length c.split_line.result.1.now ≤ length c.args.first.now =
    omega (arith, some, c.split_line.ensures.lengths, c.loop-more.invariant.counted) in
    compared_on c.args.first.now c.args.second.now c.loop-more.line c.loop-more.left.now c.loop-more.right.now
    c.split_line.result.0.now c.split_line-in-loop-more.result.0.now c.split_line.result.1.now c.split_line-in-loop-more.result.1.now
    c.loop-more.invariant c.split_line.ensures.lines c.split_line-in-loop-more.ensures.lines same some c.split_line.ensures.lengths fits
