use Rattle.std.proofs.Common.{rules, ◌≡◌, ◌∷◌, ◌++◌, [], ◌+◌, true, List, Result, Err, map, not, sym, ap, ◌∙◌, arith}
use Rattle.std.specs.Prelude.{if◌then◌else◌, nat_le}
use Rattle.std.proofs.lemmas.Bool.Decides.{nat_tests}
use Rattle.std.proofs.lemmas.List.{map-append}
use Rattle.line_reader.specs.Told.{left_of}
use Rattle.vector_runner.specs.Field.{Vector}
use Rattle.vector_runner.specs.Grammar.{lines_said, Fault, Line}
use Rattle.vector_runner.specs.Told.{vector_told}
use Rattle.vector_runner.proofs.Said.{behind, behind_none, line_bad, line_more, too_many, vectors_end}
use Rattle.vector_runner.proofs.read.read_lines.Goals as goal

pub loop-number-init : goal.loop-number-init
loop-number-init c = (
  c.requires,
  ap (λ items. behind (map vector_told items)
      (lines_said c.args.vl c.args.svl (left_of c.args.lines.now).line (left_of c.args.lines.now).lines))
      c.new-vectors.ensures.items
      ∙ ap (λ n. behind [] (lines_said c.args.vl c.args.svl n (left_of c.args.lines.now).lines)) c.requires
      ∙ behind_none (lines_said c.args.vl c.args.svl 0 (left_of c.args.lines.now).lines),
)

pub loop-number-preserved : goal.loop-number-preserved
loop-number-preserved c =
    let before = map vector_told c.loop-number.vectors.items in
    let v = c.in_ok-vector.vector in
    let ok = c.is_err.ensures.negation ∙ ap not c.if-is_err.false in
    let made = c.push.ensures.items ∙ ap (λ b. if b then c.loop-number.vectors.items ++ v ∷ [] else c.loop-number.vectors.items) ok in
    let items = ap (map vector_told) made ∙ map-append vector_told c.loop-number.vectors.items (v ∷ []) in
    let after = left_of c.pass.new.self in
    let more = line_more c.args.vl c.args.svl before (left_of c.loop-number.lines) c.line.result.now c.loop-number.number _ c.line.ensures
    (c.at_end.ensures.some c.if-at_end.false) c.loop-number.invariant.0 c.loop-number-test.true c.loop-number.invariant.1 after
    (vector_told v)
    c.pass.ensures.past c.in_ok-vector.ensures in
    (more.0, ap (λ l. behind l (lines_said c.args.vl c.args.svl after.line after.lines)) items ∙ more.1)

pub returns-in_err-vector : goal.returns-in_err-vector
returns-in_err-vector c =
    let before = map vector_told c.loop-number.vectors.items in
    let bad = line_bad c.args.vl c.args.svl before (left_of c.loop-number.lines) c.line.result.now c.loop-number.number _ c.line.ensures
    (c.at_end.ensures.some c.if-at_end.false) c.loop-number.invariant.0 c.loop-number-test.true c.loop-number.invariant.1
    c.in_err-vector.field-0.0 c.in_err-vector.ensures in
    search rules

pub returns-then-at_end : goal.returns-then-at_end
returns-then-at_end c =
    sym c.loop-number.invariant.1
    ∙ vectors_end c.args.vl c.args.svl (map vector_told c.loop-number.vectors.items) (left_of c.loop-number.lines)
    (c.at_end.ensures.none c.if-at_end.true)

pub returns-then-at_end-2 : goal.returns-then-at_end-2
returns-then-at_end-2 c =
    sym c.loop-number.invariant.1
    ∙ vectors_end c.args.vl c.args.svl (map vector_told c.loop-number.vectors.items) (left_of c.loop-number.lines)
    (c.at_end-2.ensures.none c.if-at_end-2.true)

pub returns-else-at_end-2 : goal.returns-else-at_end-2
returns-else-at_end-2 c =
    let left = left_of c.loop-number.lines in
    let count : left.line ≡ 2048 = omega (arith, c.loop-number.invariant.0) in
    let many : nat_le 2048 left.line ≡ true = grind (arith, nat_tests, count) in
    sym c.loop-number.invariant.1
    ∙ too_many c.args.vl c.args.svl (map vector_told c.loop-number.vectors.items) left (c.at_end-2.ensures.some c.if-at_end-2.false) many
    ∙ ap (λ n. let r : Result (List Vector) Fault = Err (Line (n + 1)) in r) count
