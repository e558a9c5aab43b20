use Rattle.std.proofs.Common.{◌≡◌, ◌<◌, ◌≤◌, ◌+◌, sym, subst, ap, ◌∙◌}
use Rattle.asm_parser.specs.Statements.{says_of}
use Rattle.asm_core.specs.Layout.{here, size_of}
use Rattle.asm_core.specs.Limits.{IsInLimits}
use Rattle.asm_core.proofs.PartSizes.{too_large, in_limits, not_too_large, grown_counter}
use Rattle.asm_core.proofs.location_counter.counter_after.Goals as goal

pub returns-in_err-after : goal.returns-in_err-after
returns-in_err-after c =
    let p = c.args.counter.now in
    let says = says_of c.args.statement.now in
    let size : c.size_of.result ≡ size_of says (here p) = c.size_of.ensures.value ∙ ap (size_of says) c.here.ensures in
    let over : 4194304 < here p + size_of says (here p) = subst (λ n. 4194304 < here p + n) size c.in_err-after.ensures in
    rw c.from_residual.ensures (too_large p says over)

pub returns : goal.returns
returns c =
    let p = c.args.counter.now in
    let says = says_of c.args.statement.now in
    let grew = c.in_ok-after.ensures in
    let size : c.size_of.result ≡ size_of says (here p) = c.size_of.ensures.value ∙ ap (size_of says) c.here.ensures in
    let same = grown_counter p c.in_ok-after.after says c.size_of.result c.part_after.result size grew.1 c.part_after.ensures in
    let inside : here p + size_of says (here p) ≤ 4194304 = subst (λ n. here p + n ≤ 4194304) size grew.0 in
    let limits = in_limits p says c.requires.limits inside in
    (not_too_large p says limits, same, subst IsInLimits (sym same) limits)
