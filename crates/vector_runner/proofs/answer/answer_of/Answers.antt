use Rattle.std.proofs.Common.{subst}
use Rattle.sve_vectors.specs.Lengths.{vector_bytes}
use Rattle.machine_step.specs.Effect.{effect_of}
use Rattle.vector_runner.specs.Answer.{answer}
use Rattle.vector_runner.specs.Prepared.{HasOutcome, core_in}
use Rattle.vector_runner.proofs.Outcomes.{in_mode}
use Rattle.vector_runner.proofs.answer.answer_of.Goals as goal

pub execute-requires-clause-mode : goal.execute-requires-clause-mode
execute-requires-clause-mode c = in_mode _ _ _ c.in_ok-state.state c.in_ok-state.ensures.modes

pub returns : goal.returns
unfolding answer
returns c =
    c.line_of.ensures (effect_of (vector_bytes c.args.vl) _)
    (subst (λ s. HasOutcome (effect_of (vector_bytes c.args.vl) s)
    (core_in c.execute.new.state) c.in_ok-outcome.outcome) c.in_ok-state.ensures.state
    c.in_ok-outcome.ensures)
