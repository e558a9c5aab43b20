use Rattle.kernel_contexts.specs.Context.{state_of, config_of}
use Rattle.za_routines.specs.Turns.{DisablesInPart}
use Rattle.za_routines.proofs.Known.{of_any_fault}
use Rattle.za_routines.proofs.runs.run_disable.Goals as goal

pub returns-in_err-run_quietly-clause-memory : goal.returns-in_err-run_quietly-clause-memory
returns-in_err-run_quietly-clause-memory g c =
    let first = c.args.context.now in
    let new = c.run_quietly.new.context in
    of_any_fault c.from_residual.result (DisablesInPart (config_of first) (state_of first) (state_of new))
    (c.disable_turns-turns.ensures.part (state_of new) c.in_err-run_quietly.ensures.memory)

pub returns-clause-done : goal.returns-clause-done
returns-clause-done g c = c.disable_turns-turns.ensures.done (state_of c.run_quietly.new.context) c.in_ok-run_quietly.ensures.after
