use Rattle.std.proofs.Common.{◌≡◌, ℕ, ◌<◌, List, Option, ◌+◌, ◌-◌, ◌/◌, min, rules, sym, ap, ◌∙◌, subst, Result}
use Rattle.line_reader.specs.Reading.{Left, and_then, next_line}
use Rattle.report_reader.specs.Reading.{Fault, IsFault, taken}
use Rattle.report_reader.specs.Block.{out_lines}
use Rattle.report_reader.specs.Events.{out_line}
use Rattle.line_reader.specs.Told.{left_of}
use Rattle.report_reader.specs.declared.fault.ReportKind.TheVariants.{Block}
use Rattle.report_reader.proofs.Readings.{out-more, out-end, fault_first}
use Rattle.report_reader.proofs.block.pass_out_lines.Goals as goal

-- what follows the next line
after : ℕ → Unit {0} → Left → Result (Unit {0} × Left) Fault
after size u left = out_lines ((size - min size 32 + 31) / 32) (size - min size 32) left

-- the next line, as it was read
read_line : (size part : ℕ) (left : Left) (text : List ℕ) (said : Option (Unit {0})) (whole : Result (Unit {0} × Left) Fault) → 0 < size
    → out_lines ((size + 31) / 32) size left ≡ whole → part ≡ min size 32 → text ≡ next_line left → said ≡ out_line part text
    → whole ≡ and_then (taken Block said left) (after size)
unfolding after
read_line size part left text said whole some is least first tells =
    let same : out_line (min size 32) (next_line left) ≡ said =
    ap (λ n. out_line n (next_line left)) (sym least) ∙ ap (out_line part) (sym first) ∙ sym tells in
    sym is ∙ out-more size left some ∙ ap (λ o. and_then (taken Block o left) (after size)) same

pub returns-in_err-take : goal.returns-in_err-take
returns-in_err-take c =
    let size = c.loop-left.left in
    let left = left_of c.loop-left.lines in
    let it = c.in_err-take.field-0.0 in
    let step = read_line size c.min-part.result left c.line.result.now c.out_line-said.result _ c.loop-left-test.true c.loop-left.invariant
    c.min-part.ensures c.line.ensures c.out_line-said.ensures in
    let bad : IsFault (out_lines ((c.args.size + 31) / 32) c.args.size (left_of c.args.lines.now)) it =
    subst (λ r. IsFault r it) (sym step) (fault_first (taken Block c.out_line-said.result left) (after size) it c.in_err-take.ensures) in
    search rules

pub loop-left-preserved : goal.loop-left-preserved
unfolding after
loop-left-preserved c =
    let size = c.loop-left.left in
    let left = left_of c.loop-left.lines in
    let step = read_line size c.min-part.result left c.line.result.now c.out_line-said.result _ c.loop-left-test.true c.loop-left.invariant
    c.min-part.ensures c.line.ensures c.out_line-said.ensures in
    ap (λ p. out_lines ((size - p + 31) / 32) (size - p) (left_of c.take.new.lines)) c.min-part.ensures
    ∙ sym (step ∙ ap (λ r. and_then r (after size)) c.in_ok-take.ensures)

pub returns : goal.returns
returns c = sym c.loop-left.invariant ∙ out-end c.loop-left.left (left_of c.loop-left.lines) c.loop-left-test.false
