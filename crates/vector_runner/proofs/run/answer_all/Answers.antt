use Rattle.std.proofs.Common.{◌∙◌, arith}
use Rattle.vector_runner.proofs.Mapped.{answers_end}
use Rattle.vector_runner.proofs.Fitting.{each_fit}
use Rattle.vector_runner.proofs.run.answer_all.Goals as goal

pub answer_of-requires : goal.answer_of-requires
answer_of-requires c =
    each_fit c.args.vl c.args.svl c.args.vectors.now c.loop-vector.vector-index c.vector-item.result c.requires c.loop-vector-test.true
    c.vector-item.is

pub returns : goal.returns
returns c = c.loop-vector.invariant ∙ answers_end c.args.vl c.args.svl c.args.vectors.now c.loop-vector.vector-index (omega arith)
