use Rattle.std.proofs.Common.{subst}
use Rattle.std.specs.Prelude.{codes}
use Rattle.machine_step.specs.Effect.{Becomes, Calls, Raises}
use Rattle.vector_runner.specs.Answer.{effect_text}
use Rattle.vector_runner.specs.Prepared.{HasOutcome, core_in}
use Rattle.vector_runner.proofs.Outcomes.{as_effect, as_shared, made_text}
use Rattle.vector_runner.proofs.answer.line_of.Goals as goal

pub returns-in-Next : goal.returns-in-Next
returns-in-Next c effect h =
    let state = core_in c.args.state.now in
    as_effect c.or_memory.result effect (Becomes state) (subst (λ o. HasOutcome effect state o) c.in-Next.is h)
    (made_text c.next_line.result c.or_memory.result (effect_text (Becomes state)) c.next_line.ensures c.or_memory.ensures)

pub returns-in-Call : goal.returns-in-Call
returns-in-Call c effect h =
    let call = Calls c.in-Call.number in
    as_effect c.or_memory-in-Call.result effect call (subst (λ o. HasOutcome effect (core_in c.args.state.now) o) c.in-Call.is h)
    (made_text c.call_line.result c.or_memory-in-Call.result (effect_text call) c.call_line.ensures c.or_memory-in-Call.ensures)

pub returns-in-Raise : goal.returns-in-Raise
returns-in-Raise c effect h =
    as_effect c.raise_line.result effect (Raises c.in-Raise.exception)
    (subst (λ o. HasOutcome effect (core_in c.args.state.now) o) c.in-Raise.is h) c.raise_line.ensures

pub returns-in-Shared : goal.returns-in-Shared
returns-in-Shared c effect h =
    as_shared c.or_memory-in-Shared.result effect (subst (λ o. HasOutcome effect (core_in c.args.state.now) o) c.in-Shared.is h)
    (made_text c.shared_line.result c.or_memory-in-Shared.result (codes "shared") c.shared_line.ensures c.or_memory-in-Shared.ensures)
