use Rattle.std.proofs.Common.{refl, ◌∙◌, arith}
use Rattle.vector_runner.specs.Answer.{up_to_last}
use Rattle.vector_runner.proofs.Numbered.{end_all, end_more}
use Rattle.vector_runner.proofs.registers.up_to_last.Goals as goal

pub loop-at-init : goal.loop-at-init
unfolding up_to_last
loop-at-init c = (omega arith, refl)

pub loop-at-preserved : goal.loop-at-preserved
loop-at-preserved c =
    end_more c.args.bytes.now c.loop-at.at c.loop-at.end c.end_after-end.result (omega arith) c.loop-at.invariant.0 c.loop-at.invariant.1
    c.end_after-end.ensures

pub returns : goal.returns
returns c = c.loop-at.invariant.1 ∙ end_all c.args.bytes.now c.loop-at.at (omega arith)
