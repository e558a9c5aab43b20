use Rattle.std.proofs.Common.{arith, ◌≡◌, ℕ, length, take, ap, ◌∙◌, sym}
use Rattle.std.proofs.Math.Seq.{take-length}
use Rattle.asm_tokens.proofs.Steps.{comment-more, comment-here, comment-end}
use Rattle.asm_tokens.proofs.characters.cut_comment.Goals as goal

pub loop-offset-preserved : goal.loop-offset-preserved
loop-offset-preserved c =
    comment-more c.args.line.now _ c.loop-offset.offset c.loop-offset-test.true c.if-starts_comment.ensures c.loop-offset.invariant

pub returns-then-starts_comment : goal.returns-then-starts_comment
returns-then-starts_comment c =
    comment-here c.args.line.now _ c.loop-offset.offset c.loop-offset-test.true c.if-starts_comment.ensures c.loop-offset.invariant

pub returns : goal.returns
returns c =
    let e : c.loop-offset.offset ≡ length c.args.line.now = omega arith in
    sym (take-length c.args.line.now) ∙ ap (λ (n : ℕ). take n c.args.line.now) (sym e)
    ∙ comment-end c.args.line.now _ c.loop-offset.offset (omega arith) c.loop-offset.invariant
